-- What is found in entries when more are put.
use Rattle.std.proofs.Common.{◌≡◌, ℕ, List, [], ◌∷◌, ◌++◌, length, Bool, true, false, cond, Option, Some, None, is_some, refl, sym, ap, ◌∙◌, if◌then◌else◌, ◌||◌}
use Rattle.std.specs.Prelude.{Result, Ok, Err, nat_lt}
use Rattle.std.specs.Map.{lookup}
use Rattle.std.specs.List.{list_any}
use Rattle.fisca_model.specs.Tables.{otherwise}
use Rattle.fisca_inputs.specs.Entries.{Entries, same_key, value_at, limit}
use Rattle.fisca_inputs.specs.Steps.Entries.{put, put_free, put_all}
use Rattle.fisca_num.specs.Results.{and_then}
use Rattle.fisca_model.specs.contracts.key.KeyEq.TheImpl.Laws.{laws-law}
use Rattle.fisca_inputs.specs.Faults.{at_line}
use Rattle.fisca_inputs.specs.declared.fault.SituationFault.{SituationFault}
use Rattle.fisca_inputs.specs.declared.fault.SituationKind.TheVariants.{TooMany}
use Rattle.fisca_model.specs.declared.key.Key.{Key}
use Rattle.fisca_model.specs.declared.value.Value.{Value}

-- behind the others
pub lookup-behind : {K X : Type 0} (test : K → Bool) (es fs : List (K × X)) → lookup test (es ++ fs) ≡ otherwise (lookup test es) (lookup test fs)
lookup-behind test [] fs = refl
lookup-behind {K} {X} test (e ∷ es) fs = by (test e.0) (lookup-behind test es fs)
  where
    by : (b : Bool) → lookup test (es ++ fs) ≡ otherwise (lookup test es) (lookup test fs)
        → cond b (Some e.1) (lookup test (es ++ fs)) ≡ otherwise (cond b (Some e.1) (lookup test es)) (lookup test fs)
    by true h = refl
    by false h = h

otherwise_none : {X : Type 0} (a : Option X) → otherwise a None ≡ a
otherwise_none (Some x) = refl
otherwise_none None = refl

-- one more entry
pub looked-put : (line : ℕ) (k : Key) (x : Value) (es new : Entries) (q : Key) → put line k x es ≡ Ok new
    → value_at new q ≡ otherwise (value_at es q) (if same_key q k then Some x else None)
looked-put line k x es new q h = by (nat_lt (length es) limit) h
  where
    last : (b : Bool) → cond b (Some x) None ≡ (if b then Some x else None)
    last true = refl
    last false = refl

    by : (b : Bool) → (if b then Ok (es ++ (k, x) ∷ []) else Err (at_line line TooMany)) ≡ Ok new → value_at new q ≡ otherwise (value_at es q) (if same_key q k then Some x else None)
    by true e = let same : es ++ (k, x) ∷ [] ≡ new = cc in ap (λ fs. value_at fs q) (sym same) ∙ lookup-behind (same_key q) es ((k, x) ∷ []) ∙ ap (otherwise (value_at es q)) (last (same_key q k))
    by false e = cc

same-like : (q k : Key) → same_key q k ≡ true → (r : Key) → same_key q r ≡ same_key k r
same-like q k e r = laws-law.congr q k r e

pub looked-like : (q k : Key) → same_key q k ≡ true → (es : Entries) → value_at es q ≡ value_at es k
looked-like q k e [] = refl
looked-like q k e (x ∷ es) = λ i. cond (same-like q k e x.0 i) (Some x.1) (looked-like q k e es i)

-- an entry that is put unless it is there
pub looked-put_free : (line : ℕ) (x : Value) (k : Key) (es new : Entries) (q : Key) → put_free line x k es ≡ Ok new
    → value_at new q ≡ otherwise (value_at es q) (if same_key q k then Some x else None)
looked-put_free line x k es new q h = by (value_at es k) refl h
  where
    stays : (b : Bool) → same_key q k ≡ b → (y : Value) → value_at es k ≡ Some y → value_at es q ≡ otherwise (value_at es q) (if b then Some x else None)
    stays true same y there = let e : value_at es q ≡ Some y = looked-like q k same es ∙ there in e ∙ ap (λ o. otherwise o (Some x)) (sym e)
    stays false same y there = sym (otherwise_none (value_at es q))

    by : (o : Option Value) → value_at es k ≡ o → (if is_some o then Ok es else put line k x es) ≡ Ok new
        → value_at new q ≡ otherwise (value_at es q) (if same_key q k then Some x else None)
    by (Some y) there e = let same : es ≡ new = cc in ap (λ fs. value_at fs q) (sym same) ∙ stays (same_key q k) refl y there
    by None there e = looked-put line k x es new q e

-- each of these keys that was free has the value, and nothing else has changed
pub looked-put_all : (line : ℕ) (x : Value) (ks : List Key) (es new : Entries) (q : Key) → put_all line x ks es ≡ Ok new
    → value_at new q ≡ otherwise (value_at es q) (if list_any (same_key q) ks then Some x else None)
looked-put_all line x [] es new q h = let same : es ≡ new = cc in ap (λ fs. value_at fs q) (sym same) ∙ sym (otherwise_none (value_at es q))
looked-put_all line x (k ∷ ks) es new q h = by (λ mid rest. looked-put_all line x ks mid new q rest) (put_free line x k es) refl h
  where
    both : (a b : Bool) (o : Option Value) → otherwise (otherwise o (if a then Some x else None)) (if b then Some x else None) ≡ otherwise o (if a || b then Some x else None)
    both true b (Some y) = refl
    both true b None = refl
    both false b (Some y) = refl
    both false b None = refl

    by : ((mid : Entries) → put_all line x ks mid ≡ Ok new → value_at new q ≡ otherwise (value_at mid q) (if list_any (same_key q) ks then Some x else None))
        → (r : Result Entries SituationFault) → put_free line x k es ≡ r → and_then r (put_all line x ks) ≡ Ok new
        → value_at new q ≡ otherwise (value_at es q) (if list_any (same_key q) (k ∷ ks) then Some x else None)
    by more (Ok mid) first rest =
        more mid rest ∙ ap (λ o. otherwise o (if list_any (same_key q) ks then Some x else None)) (looked-put_free line x k es mid q first)
        ∙ both (same_key q k) (list_any (same_key q) ks) (value_at es q)
    by more (Err f) first rest = cc
