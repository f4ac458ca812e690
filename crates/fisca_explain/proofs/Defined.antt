-- What is told over memory is what the rules define, where all work of the key is remembered.
use Rattle.std.proofs.Common.{◌≡◌, ◌∙◌, inl, inr, ℕ, zero, suc, ◌+◌, ◌-◌, ◌≤◌, List, [], ◌∷◌, ◌++◌, Bool, true, false, if◌then◌else◌, Option, Some, None, Result, Ok, Err, refl, sym, ap, ap₂, subst, arith}
use Rattle.fisca_explanation.specs.Explanations.{above, at_hand, beyond, unfit, worked}
use Rattle.fisca_groups.specs.Grouped.{grouped}
use Rattle.fisca_inputs.specs.Entries.{value_at}
use Rattle.fisca_inputs.specs.Steps.Rules.{default_of}
use Rattle.fisca_key_semantics.specs.Answers.{Source, at_once, formula, known, most_keys, refused, value_within}
use Rattle.fisca_key_semantics.specs.Chains.{asked}
use Rattle.fisca_key_semantics.specs.Inquiry.{Inquiry, of_key as inquiry_of}
use Rattle.fisca_key_semantics.specs.Keys.{In, has}
use Rattle.fisca_memo_theory.specs.Entries.{Entries, Remembered}
use Rattle.fisca_memo_theory.specs.Memory.{HasFormula, IsTrueMemory}
use Rattle.fisca_memo_theory.specs.Work.{IsWork}
use Rattle.fisca_model.specs.Seen.{key_of}
use Rattle.fisca_model.specs.Values.{Key, Value}
use Rattle.fisca_model.specs.declared.value.Value.{Value as Given}
use Rattle.fisca_rules.specs.Views.{rule_set}
use Rattle.fisca_rules.specs.declared.rule_set.RuleSet.{RuleSet}
use Rattle.fisca_simulation.specs.Simulations.{Simulation, computed, formula_of, given_or_computed, known_or_refused, source_of, sources, variable_of, worked_out}
use Rattle.fisca_situations.specs.Situations.{Situation}
use Rattle.fisca_symbols.specs.declared.variable.Variable.{Variable}
use Rattle.fisca_typing.specs.Formulas.{Formula}
use Rattle.fisca_simulation.specs.Followed.{keys_noted}
use Rattle.fisca_simulation.specs.Noted.{Noted, erased}
use Rattle.fisca_simulation.specs.Played.{played}
use Rattle.fisca_simulation.specs.declared.note.Note.{Note}
use Rattle.fisca_simulation.proofs.NotedKeys.{keys_same}
use Rattle.fisca_explain.specs.Below.{answers_by}
use Rattle.fisca_explain.specs.Columns.{value_below}
use Rattle.fisca_explain.specs.Explained.{Told, alone, explained, notes_in_turn, of_key, over, reason_at, told_at_end, told_from}
use Rattle.fisca_explain.specs.Needs.{by_formula, by_variable, needs, noted_work}
use Rattle.fisca_explain.proofs.Agreeing.{played_alike, told_alike}
use Rattle.fisca_explain.proofs.FromMemory.{from_memory}
use Rattle.fisca_explain.proofs.Moving.{work_same}
use Rattle.fisca_explain.proofs.Views.{IsViewIn, formulas_are_views}

-- a situation under a rule set
abbrev pub simulation : RuleSet → Situation → List Bool → Simulation
simulation r s neutral = record { rules = rule_set r; situation = s; neutral = neutral }

module _ (r : RuleSet) (s : Situation) (neutral : List Bool) where
  abbrev m : Simulation
  m = simulation r s neutral

  -- a key whose formula gives a value is of its own work
  itself : (n : ℕ) (key : Key) (v : Value) → value_within (sources m) n key ≡ Ok v → HasFormula (sources m) key → IsWork (sources m) n key key
  unfolding IsWork value_within
  itself zero key v h f = let out : at_once (formula f.0) key ≡ Ok v = ap (λ s. at_once s key) (sym f.1) ∙ h in cc
  itself (suc n) key v h f = (f.0, f.1, inr (refl, (v, h)))

  -- and the work of what it asks for is of its work
  below_work : (n : ℕ) (key j k : Key) (d : Inquiry) → sources m key ≡ formula d → In j (asked (value_within (sources m) n) d) → IsWork (sources m) n j k → IsWork (sources m) (suc n) key k
  unfolding IsWork
  below_work n key j k d e i w = (d, e, inl (j, i, w))

  -- What a formula needs, where W answers what it asks for as the rules define it

  module _ (W : ℕ → Key → Option Value) (depth : ℕ) (key : Key) (d : Inquiry) where
    abbrev asked_below : List Key
    asked_below = asked (value_within (sources m) (most_keys - suc depth)) d

    abbrev AreAlike : Type 0
    AreAlike = (j : Key) → In j asked_below → W (suc depth) j ≡ value_below m (suc depth) j

    -- the keys that are noted are those that are asked for, and W notes the same
    record IsNoted (by_W by_rules : List Note) : Type 0 where
      keys : keys_noted by_rules ≡ asked_below
      same : AreAlike → by_W ≡ by_rules

    formula_same : (a b : Inquiry) → formula a ≡ formula b → a ≡ b
    formula_same a b h = cc

    by_view : (v : Variable) (f : Formula) → IsViewIn (Some f) → computed m v key (Some f) ≡ formula d
        → IsNoted (by_formula m (W (suc depth)) v key (Some f)) (by_formula m (value_below m (suc depth)) v key (Some f))
    by_view v f view e = record { keys = keys; same = λ alike. ap (λ p. p.notes) (played_alike (W (suc depth)) (value_below m (suc depth)) noted (λ j i. alike j (subst (In j) keys i))) }
      where
        noted : Noted
        noted = noted_work m v key f

        means : erased noted ≡ worked_out m.rules (grouped m.situation.members) v key f
        means = rw view.1 (work_same m v key view.0.values.items view.0.result)

        inquiry : inquiry_of key (worked_out m.rules (grouped m.situation.members) v key f) ≡ d
        inquiry = formula_same (inquiry_of key (worked_out m.rules (grouped m.situation.members) v key f)) d e

        keys : keys_noted (played (value_below m (suc depth)) noted).notes ≡ asked_below
        keys =
            keys_same (value_within (sources m) (most_keys - suc depth)) key noted
            ∙ ap (λ x. asked (value_within (sources m) (most_keys - suc depth)) (inquiry_of key x)) means ∙ ap (asked (value_within (sources m) (most_keys - suc depth))) inquiry

    by_default : (v : Variable) (o : Option Given) → known_or_refused o ≡ formula d → ⊥
    by_default v None e = cc
    by_default v (Some x) e = cc

    by_option : (v : Variable) (o : Option Formula) → IsViewIn o → computed m v key o ≡ formula d → IsNoted (by_formula m (W (suc depth)) v key o) (by_formula m (value_below m (suc depth)) v key o)
    by_option v None view e = absurd (by_default v (default_of v.default_value) e)
    by_option v (Some f) view e = by_view v f view e

    by_input : (v : Variable) (x : Option Given) → given_or_computed m v key x ≡ formula d
        → IsNoted (by_formula m (W (suc depth)) v key (formula_of m.rules m.neutral v key)) (by_formula m (value_below m (suc depth)) v key (formula_of m.rules m.neutral v key))
    by_input v (Some x) e = cc
    by_input v None e = by_option v (formula_of m.rules m.neutral v key) (formulas_are_views r neutral v key) e

    by_source : (o : Option Variable) → source_of m key o ≡ formula d → IsNoted (by_variable m (W (suc depth)) key o) (by_variable m (value_below m (suc depth)) key o)
    by_source None e = cc
    by_source (Some v) e = by_input v (value_at m.situation.inputs (key_of key)) e

    needs_noted : sources m key ≡ formula d → IsNoted (needs m W depth key) (needs m (value_below m) depth key)
    needs_noted e = by_source (variable_of m.rules key) e

  -- What is told

  module _ (entries : Entries) (truth : IsTrueMemory (sources m) entries) where
    abbrev W : ℕ → Key → Option Value
    W depth = answers_by (sources m) entries (most_keys - depth)

    -- all work of a key below so many others is remembered
    abbrev pub HasWork : ℕ → Key → Type 0
    HasWork depth key = (k : Key) → IsWork (sources m) (most_keys - depth) key k → Remembered entries k

    here : (depth : ℕ) (key : Key) → HasWork depth key → W depth key ≡ value_below m depth key
    here depth key all = from_memory (sources m) entries truth (most_keys - depth) key (λ v h f. all key (itself (most_keys - depth) key v h f))

    -- what is asked for has its work
    further : (depth : ℕ) (key j : Key) (d : Inquiry) → suc depth ≤ most_keys → HasWork depth key → sources m key ≡ formula d
        → In j (asked (value_within (sources m) (most_keys - suc depth)) d) → HasWork (suc depth) j
    further depth key j d room all e i k w = all k (subst (λ n. IsWork (sources m) n key k) fuel (below_work (most_keys - suc depth) key j k d e i w))
      where
        fuel : suc (most_keys - suc depth) ≡ most_keys - depth
        fuel = omega (arith, room)

    pub told_defined : (levels depth : ℕ) (before : List Key) (key : Key) → levels + depth ≤ most_keys → HasWork depth key
        → explained (sources m) W (needs m W) levels depth before key ≡ explained (sources m) (value_below m) (needs m (value_below m)) levels depth before key
    unfolding explained
    told_defined zero depth before key room all = by (sources m key)
      where
        same : W depth key ≡ value_below m depth key
        same = here depth key all

        by : (s : Source) → told_at_end (sources m) W (needs m W) depth before key s ≡ told_at_end (sources m) (value_below m) (needs m (value_below m)) depth before key s
        by refused = ap (λ w. alone (of_key depth key w unfit) before) same
        by (known v) = ap (λ w. alone (of_key depth key w (reason_at w)) before) same
        by (formula d) = ap (λ w. alone (of_key depth key w (if has before key then above else beyond)) before) same
    told_defined (suc n) depth before key room all = by (λ b j. told_defined n (suc depth) b j (omega (arith, room))) (sources m key) refl
      where
        same : W depth key ≡ value_below m depth key
        same = here depth key all

        tell : List Key → Key → Told
        tell = explained (sources m) W (needs m W) n (suc depth)

        say : List Key → Key → Told
        say = explained (sources m) (value_below m) (needs m (value_below m)) n (suc depth)

        by : ((b : List Key) (j : Key) → HasWork (suc depth) j → tell b j ≡ say b j) → (s : Source) → sources m key ≡ s
            → told_from (sources m) W (needs m W) tell depth before key s ≡ told_from (sources m) (value_below m) (needs m (value_below m)) say depth before key s
        by ih refused e = ap (λ w. alone (of_key depth key w unfit) before) same
        by ih (known v) e = ap (λ w. alone (of_key depth key w at_hand) before) same
        by ih (formula d) e = by_before (has before key)
          where
            wide : suc depth ≤ most_keys
            wide = omega (arith, room)

            noted : IsNoted W depth key d (needs m W depth key) (needs m (value_below m) depth key)
            noted = needs_noted W depth key d e

            notes : needs m W depth key ≡ needs m (value_below m) depth key
            notes = noted.same (λ j i. here (suc depth) j (further depth key j d wide all e i))

            rest : notes_in_turn tell (suc depth) (before ++ key ∷ []) (needs m W depth key) ≡ notes_in_turn say (suc depth) (before ++ key ∷ []) (needs m (value_below m) depth key)
            rest =
                ap (notes_in_turn tell (suc depth) (before ++ key ∷ [])) notes
                ∙ told_alike tell say (suc depth) (before ++ key ∷ []) (needs m (value_below m) depth key)
                (λ b j i. ih b j (further depth key j d wide all e (subst (In j) noted.keys i)))

            by_before : (b : Bool) → (if b then alone (of_key depth key (W depth key) above) before else over (of_key depth key (W depth key) worked) (notes_in_turn tell (suc depth) (before ++ key ∷ []) (needs m W depth key)))
                ≡ (if b then alone (of_key depth key (value_below m depth key) above) before
                else over (of_key depth key (value_below m depth key) worked) (notes_in_turn say (suc depth) (before ++ key ∷ []) (needs m (value_below m) depth key)))
            by_before true = ap (λ w. alone (of_key depth key w above) before) same
            by_before false = ap₂ (λ w t. over (of_key depth key w worked) t) same rest
