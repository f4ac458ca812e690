-- What is noted changes nothing: without it a node means what it means.
use Rattle.std.proofs.Common.{◌≡◌, ℕ, zero, suc, ◌+◌, ◌*◌, ◌==◌, List, [], ◌∷◌, length, map, Option, Some, None, Result, Ok, Err, Bool, true, false, if◌then◌else◌, refl, ap, ap₂, ◌∙◌, sym, option_map, slice_get}
use Rattle.std.proofs.lemmas.List.{length-map}
use Rattle.std.proofs.lemmas.Option.{slice_get-map}
use Rattle.fisca_num.specs.Number.{Number}
use Rattle.fisca_model.specs.Values.{Value, number, bool, member}
use Rattle.fisca_model.specs.Groups.{Groups, Point, persons_at}
use Rattle.fisca_model.specs.Tables.{Tables}
use Rattle.fisca_typing.specs.Answers.{arithmetic_of, logic_of, comparison_of, same_of, unary_of}
use Rattle.fisca_typing.specs.Meaning.{at_person}
use Rattle.fisca_typing.specs.Meaning as meaning
use Rattle.fisca_typing.specs.Questions.{moved_all, part_of, counted}
use Rattle.fisca_typing.specs.Questions as questions
use Rattle.fisca_key_semantics.specs.Dialogues.{Dialogue, ◌>>=◌}
use Rattle.fisca_key_semantics.specs.Dialogues as plain
use Rattle.fisca_ir.specs.Views.{node as seen}
use Rattle.fisca_ir.specs.declared.node.Node.{Node as Held}
use Rattle.fisca_machine.proofs.Binds.{says_on}
use Rattle.fisca_machine.proofs.Formulas.{means, below_on, formula_on}
use Rattle.fisca_machine.specs.Running.{says_below, says_or}
use Rattle.fisca_params.specs.Lookup.{value_in}
use Rattle.fisca_params.specs.Tree.{content_at}
use Rattle.fisca_time.specs.Instant.{CivilDate}
use Rattle.fisca_time.specs.Period.{Span, start_of}
use Rattle.fisca_time.specs.declared.fault.TimeFault.{TimeFault}
use Rattle.fisca_typing.specs.declared.moves.Move.{Move}
use Rattle.fisca_typing.specs.declared.operations.Arithmetic.TheVariants as arith
use Rattle.fisca_typing.specs.declared.operations.Logic.TheVariants as logic
use Rattle.fisca_typing.specs.declared.operations.Total.{Total}
use Rattle.fisca_typing.specs.declared.operations.Total.TheVariants as total
use Rattle.fisca_typing.specs.Nodes.{Node, Indices, no_index, index}
use Rattle.fisca_typing.specs.Nodes as node
use Rattle.fisca_simulation.specs.Noted.{Noted, gives, fails, stuck, asks, reads, behind, unread, erased}
use Rattle.fisca_simulation.specs.NotedFormulas.{Locals, noted, noted_index, noted_below, noted_formula, noted_or, in_turn, from_first, total_over, chosen, of_two, with_number, with_member, on_start, in_range, at_start, parameter_at}

-- two ways to go on are alike where they are alike at each value
abbrev same_after : {f g : Value → Dialogue} → ((v : Value) → f v ≡ g v) → f ≡ g
same_after h = λ i v. h v i

erased_behind : (d : Noted) (f : Value → Noted) → erased (behind d f) ≡ erased d >>= (λ v. erased (f v))
erased_behind (gives v) f = refl
erased_behind (fails e) f = refl
erased_behind stuck f = refl
erased_behind (asks k g) f = ap (plain.asks k) (same_after (λ v. erased_behind (g v) f))
erased_behind (reads r d) f = erased_behind d f

pub erased_unread : (d : Dialogue) → erased (unread d) ≡ d
erased_unread (plain.gives v) = refl
erased_unread (plain.fails e) = refl
erased_unread plain.stuck = refl
erased_unread (plain.asks k g) = ap (plain.asks k) (same_after (λ v. erased_unread (g v)))

pub behind_same : (d : Noted) (e : Dialogue) (f : Value → Noted) (h : Value → Dialogue) → erased d ≡ e → ((v : Value) → erased (f v) ≡ h v) → erased (behind d f) ≡ e >>= h
behind_same d e f h p q = erased_behind d f ∙ ap₂ (λ x y. x >>= y) p (same_after q)

two_same : (o : Value → Value → Dialogue) (a b : Noted) (x y : Dialogue) → erased a ≡ x → erased b ≡ y → erased (of_two o a b) ≡ x >>= λ v. y >>= λ w. o v w
two_same o a b x y p q = behind_same a x _ _ p (λ v. behind_same b y _ _ q (λ w. erased_unread (o v w)))

number_same : (x : Value) (f : Number → Noted) (h : Number → Dialogue) → ((n : Number) → erased (f n) ≡ h n) → erased (with_number x f) ≡ plain.with_number x h
number_same (number n) f h q = q n
number_same (bool true) f h q = q _
number_same (bool false) f h q = q _
number_same (member i) f h q = refl

member_same : (x : Value) (f : ℕ → Noted) (h : ℕ → Dialogue) → ((n : ℕ) → erased (f n) ≡ h n) → erased (with_member x f) ≡ plain.with_member x h
member_same (number n) f h q = refl
member_same (bool b) f h q = refl
member_same (member i) f h q = q i

chosen_same : (x : Value) (a b : Noted) (c d : Dialogue) → erased a ≡ c → erased b ≡ d → erased (chosen x a b) ≡ meaning.chosen x c d
chosen_same (number n) a b c d p q = refl
chosen_same (bool true) a b c d p q = p
chosen_same (bool false) a b c d p q = q
chosen_same (member i) a b c d p q = refl

day_same : (o : Option CivilDate) (f : CivilDate → Noted) (h : CivilDate → Dialogue) → ((d : CivilDate) → erased (f d) ≡ h d) → erased (on_start o f) ≡ questions.on_start o h
day_same None f h q = refl
day_same (Some d) f h q = q d

range_same : (r : Result Span TimeFault) (f : CivilDate → Noted) (h : CivilDate → Dialogue) → ((d : CivilDate) → erased (f d) ≡ h d)
    → erased (in_range r (λ q. on_start (start_of q) f)) ≡ questions.in_range r (λ q. questions.on_start (start_of q) h)
range_same (Err e) f h q = refl
range_same (Ok p) f h q = day_same (start_of p) f h q

start_same : (ms : List Move) (p : Span) (f : CivilDate → Noted) (h : CivilDate → Dialogue) → ((d : CivilDate) → erased (f d) ≡ h d) → erased (at_start ms p f) ≡ questions.at_start ms p h
start_same ms p f h q = range_same (moved_all ms p) f h q

place_same : (c : Tables) (o : Option ℕ) (day : CivilDate) → erased (parameter_at c o day) ≡ meaning.at_place o (λ place. meaning.parameter_value (value_in (content_at c.nodes place) day))
place_same c None day = refl
place_same c (Some place) day = erased_unread _

module _ (step : Value → Value → Dialogue) (e : ℕ → Noted) (d : ℕ → Dialogue) (h : (m : ℕ) → erased (e m) ≡ d m) where
  turn_same : (ms : List ℕ) (sum : Value) → erased (in_turn step e ms sum) ≡ meaning.in_turn step d ms sum
  turn_same [] sum = refl
  turn_same (m ∷ ms) sum = behind_same (e m) (d m) _ _ (h m) (λ x. behind_same (unread (step sum x)) (step sum x) _ _ (erased_unread (step sum x)) (λ s. turn_same ms s))

  first_same : (ms : List ℕ) → erased (from_first step e ms) ≡ meaning.from_first step d ms
  first_same [] = refl
  first_same (m ∷ ms) = behind_same (e m) (d m) _ _ (h m) (λ x. number_same x _ _ (λ n. turn_same ms (number n)))

total_same : (o : Total) (e : ℕ → Noted) (d : ℕ → Dialogue) → ((m : ℕ) → erased (e m) ≡ d m) → (ms : List ℕ) → erased (total_over o e ms) ≡ meaning.total_over o d ms
total_same total.Sum e d h ms = turn_same (arithmetic_of arith.Add) e d h ms _
total_same total.Min e d h ms = first_same (arithmetic_of arith.Min) e d h ms
total_same total.Max e d h ms = first_same (arithmetic_of arith.Max) e d h ms
total_same total.Any e d h ms = turn_same (logic_of logic.Or) e d h ms _
total_same total.All e d h ms = turn_same (logic_of logic.And) e d h ms _

module _ (c : Tables) (g : Groups) (E : Locals) (ls : meaning.Locals) (h : (i : ℕ) (p : Point) → erased (E i p) ≡ meaning.local_at (slice_get ls i) p) where
  mutual
    pub noted_same : (n : Node) (p : Point) → erased (noted c g E n p) ≡ meaning.mean c g ls n p
    noted_same (node.literal n) p = refl
    noted_same (node.truth b) p = refl
    noted_same (node.member e i) p = refl
    noted_same (node.local i) p = h i p
    noted_same (node.date_part d ms) p = start_same ms p.period _ _ (λ day. erased_unread (counted (part_of d day)))
    noted_same (node.ask v w how ms) p = erased_unread _
    noted_same (node.has_role e r) p = refl
    noted_same (node.count e r) p = erased_unread _
    noted_same (node.total o r a) p = total_same o _ _ (λ m. noted_same a (at_person p m)) (persons_at g p r)
    noted_same (node.unary o a) p = behind_same (noted c g E a p) (meaning.mean c g ls a p) _ _ (noted_same a p) (λ x. erased_unread (unary_of o x))
    noted_same (node.arithmetic o a b) p = two_same (arithmetic_of o) (noted c g E a p) (noted c g E b p) _ _ (noted_same a p) (noted_same b p)
    noted_same (node.logic o a b) p = two_same (logic_of o) (noted c g E a p) (noted c g E b p) _ _ (noted_same a p) (noted_same b p)
    noted_same (node.comparison o a b) p = two_same (comparison_of o) (noted c g E a p) (noted c g E b p) _ _ (noted_same a p) (noted_same b p)
    noted_same (node.same a b) p = two_same same_of (noted c g E a p) (noted c g E b p) _ _ (noted_same a p) (noted_same b p)
    noted_same (node.choose q a b) p = behind_same (noted c g E q p) (meaning.mean c g ls q p) _ _ (noted_same q p) (λ x. chosen_same x (noted c g E a p) (noted c g E b p) _ _ (noted_same a p) (noted_same b p))
    noted_same (node.parameter is places ms) p = start_same ms p.period _ _ (λ day. index_same is 0 p _ _ (λ i. place_same c (slice_get places i) day))
    noted_same (node.scale_sum place ms a) p = start_same ms p.period _ _ (λ day. behind_same (noted c g E a p) (meaning.mean c g ls a p) _ _ (noted_same a p) (λ x. number_same x _ _ (λ n. erased_unread _)))

    index_same : (is : Indices) (i : ℕ) (p : Point) (f : ℕ → Noted) (k : ℕ → Dialogue) → ((j : ℕ) → erased (f j) ≡ k j) → erased (noted_index c g E is i p f) ≡ meaning.at_index c g ls is i p k
    index_same no_index i p f k q = q i
    index_same (index n size is) i p f k q = behind_same (noted c g E n p) (meaning.mean c g ls n p) _ _ (noted_same n p) (λ x. member_same x _ _ (λ j. index_same is (i * size + j) p f k q))

ends : (d : Dialogue) → d >>= plain.gives ≡ d
ends (plain.gives v) = refl
ends (plain.fails e) = refl
ends plain.stuck = refl
ends (plain.asks k g) = ap (plain.asks k) (same_after (λ v. ends (g v)))

module _ (c : Tables) (g : Groups) (ns : List Held) where
  below_same : (n i : ℕ) (p : Point) → erased (noted_below c g (map seen ns) n i p) ≡ says_below c g ns n i p plain.gives
  unfolding noted_below says_below
  below_same zero i p = refl
  below_same (suc n) i p = by (λ j q. below_same n j q) (i == n)
    where
      or_same : ((j : ℕ) (q : Point) → erased (noted_below c g (map seen ns) n j q) ≡ says_below c g ns n j q plain.gives) → (o : Option Held)
          → erased (noted_or c g (noted_below c g (map seen ns) n) (option_map seen o) p) ≡ says_or c g (says_below c g ns n) o p plain.gives
      or_same ih None = refl
      or_same ih (Some e) =
          noted_same c g (noted_below c g (map seen ns) n) (means c g ns n) (λ j q. ih j q ∙ below_on c g ns n j q plain.gives ∙ ends _) (seen e) p
          ∙ sym (ends _) ∙ sym (says_on c g (says_below c g ns n) (means c g ns n) (λ j q l. below_on c g ns n j q l) (seen e) p plain.gives)

      by : ((j : ℕ) (q : Point) → erased (noted_below c g (map seen ns) n j q) ≡ says_below c g ns n j q plain.gives) → (b : Bool)
          → erased (if b then noted_or c g (noted_below c g (map seen ns) n) (slice_get (map seen ns) n) p else noted_below c g (map seen ns) n i p)
          ≡ (if b then says_or c g (says_below c g ns n) (slice_get ns n) p plain.gives else says_below c g ns n i p plain.gives)
      by ih true = ap (λ o. erased (noted_or c g (noted_below c g (map seen ns) n) o p)) (slice_get-map seen ns n) ∙ or_same ih (slice_get ns n)
      by ih false = ih i p

  all_same : (e : Held) (p : Point) (n : ℕ) → n ≡ length ns → erased (noted c g (noted_below c g (map seen ns) n) (seen e) p) ≡ meaning.mean_from c g [] (map seen ns) (seen e) p
  all_same e p n h =
      ap (λ k. erased (noted c g (noted_below c g (map seen ns) k) (seen e) p)) h
      ∙ noted_same c g (noted_below c g (map seen ns) (length ns)) (means c g ns (length ns)) (λ i q. below_same (length ns) i q ∙ below_on c g ns (length ns) i q plain.gives ∙ ends _) (seen e) p
      ∙ sym (ends _) ∙ sym (says_on c g (says_below c g ns (length ns)) (means c g ns (length ns)) (λ i q l. below_on c g ns (length ns) i q l) (seen e) p plain.gives)
      ∙ formula_on c g ns e p plain.gives ∙ ends _

  -- a formula means what it means without what is noted
  pub formula_same : (e : Held) (p : Point) → erased (noted_formula c g (record { values = map seen ns; result = seen e }) p) ≡ meaning.formula_means c g (record { values = map seen ns; result = seen e }) p
  formula_same e p = all_same e p (length (map seen ns)) (length-map ns seen)
