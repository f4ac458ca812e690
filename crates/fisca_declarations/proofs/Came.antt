-- Days that came before.
use Rattle.std.proofs.Common.{◌≡◌, ◌∙◌, sym, ap, refl, arith, ℕ, List, [], ◌∷◌, ◌++◌, Bool, true, false, not, ◌&&◌, ◌||◌, nat_eq, if◌then◌else◌, Option, Some, None, Ok}
use Rattle.std.proofs.lemmas.Bool.Decides.{nat_tests}
use Rattle.std.specs.List.{list_any}
use Rattle.fisca_attributes.specs.Values.{bad_attribute}
use Rattle.fisca_ast.specs.Modules.{Formula}
use Rattle.fisca_time.specs.Instant.{CivilDate}
use Rattle.fisca_time.specs.contracts.instant.InstantPartialEq.TheImpl.{eq-value}
use Rattle.fisca_declarations.specs.Lines.{Before}
use Rattle.fisca_declarations.specs.Steps.Lines.{behind_formula, with_day}
use Rattle.fisca_declarations.specs.Steps.VariableForms.{if_allowed, same_day}

nat-like : (m n : ℕ) → nat_eq m n ≡ nat_eq n m
nat-like m n = grind (arith, nat_tests)

day-like : (a b : CivilDate) → (eq-value).it a b ≡ same_day b a
day-like a b = λ i. nat-like a.year b.year i && (nat-like a.month b.month i && nat-like a.day b.day i)

came-like : (d : CivilDate) (ds : List CivilDate) → list_any ((eq-value).it d) ds ≡ list_any (λ e. same_day e d) ds
came-like d [] = refl
came-like d (e ∷ ds) = λ i. day-like d e i || came-like d ds i

-- a day that is refused came before
came_where : (came new : Bool) → new ≡ not came → new ≡ false → came ≡ true
came_where true new e h = refl
came_where false new e h = absurd cc

-- a day that is taken did not
new_where : (came new : Bool) → new ≡ not came → new ≡ true → came ≡ false
new_where true new e h = absurd cc
new_where false new e h = refl

any-like : (d first : CivilDate) (ds : List CivilDate) (is came : Bool) → (eq-value).it d first ≡ is → list_any ((eq-value).it d) ds ≡ came
    → list_any (λ e. same_day e d) (first ∷ ds) ≡ (is || came)
any-like d first ds is came e h = λ i. (sym (day-like d first) ∙ e) i || (sym (came-like d ds) ∙ h) i

abbrev if_day : List CivilDate → CivilDate → Bool → Option (List CivilDate)
if_day ds d came = if came then None else Some (ds ++ d ∷ [])

pub is_first : (d first : CivilDate) (ds : List CivilDate) → (eq-value).it d first ≡ true → with_day (first ∷ ds) d ≡ None
is_first d first ds e = ap (if_day (first ∷ ds) d) (any-like d first ds true (list_any ((eq-value).it d) ds) e refl)

pub is_behind : (d first : CivilDate) (ds : List CivilDate) (new : Bool) → (eq-value).it d first ≡ false → new ≡ not (list_any ((eq-value).it d) ds) → new ≡ false
    → with_day (first ∷ ds) d ≡ None
is_behind d first ds new e n h = ap (if_day (first ∷ ds) d) (any-like d first ds false true e (came_where (list_any ((eq-value).it d) ds) new n h))

put : (came : Bool) (old added ds : List CivilDate) → came ≡ false → ds ≡ (if came then old else added) → ds ≡ added
put true old added ds e h = absurd cc
put false old added ds e h = h

pub is_new : (d first : CivilDate) (ds more : List CivilDate) (new : Bool) → (eq-value).it d first ≡ false → new ≡ not (list_any ((eq-value).it d) ds) → new ≡ true
    → more ≡ (if list_any ((eq-value).it d) ds then ds else ds ++ d ∷ []) → Some (first ∷ more) ≡ with_day (first ∷ ds) d
is_new d first ds more new e n h k =
    let came = new_where (list_any ((eq-value).it d) ds) new n h in
    ap (λ xs. Some (first ∷ xs)) (put (list_any ((eq-value).it d) ds) ds (ds ++ d ∷ []) more came k)
    ∙ sym (ap (if_day (first ∷ ds) d) (any-like d first ds false false e came))

-- A formula beside the days before it

none_where : (came : Bool) (ds : List CivilDate) → (if came then None else Some ds) ≡ None → came ≡ true
none_where true ds e = refl
none_where false ds e = absurd cc

some_where : (came : Bool) (ds xs : List CivilDate) → (if came then None else Some ds) ≡ Some xs → came ≡ false
some_where true ds xs e = absurd cc
some_where false ds xs e = refl

same_where : (came : Bool) (ds xs : List CivilDate) → (if came then None else Some ds) ≡ Some xs → ds ≡ xs
same_where true ds xs e = absurd cc
same_where false ds xs e = cc

refused : (may came : Bool) → came ≡ true → (may && not came) ≡ false
refused true came e = ap not e
refused false came e = refl

pub day_came : (may : Bool) (b : Before) (f : Formula) → with_day b.days f.start ≡ None → behind_formula may b f ≡ bad_attribute
day_came may b f e =
    let came = list_any (λ d. same_day d f.start) b.days in
    ap (λ allowed. if_allowed allowed (record b { days = b.days ++ f.start ∷ [] })) (refused may came (none_where came (b.days ++ f.start ∷ []) e))

pub day_new : (may : Bool) (b : Before) (f : Formula) (ds : List CivilDate) → may ≡ true → with_day b.days f.start ≡ Some ds
    → behind_formula may b f ≡ Ok (record { names = b.names; days = ds })
day_new may b f ds m e =
    let came = list_any (λ d. same_day d f.start) b.days in
    let more = b.days ++ f.start ∷ [] in
    (λ i. if_allowed (m i && not (some_where came more ds e i)) (record b { days = more })) ∙ (λ i. Ok (record { names = b.names; days = same_where came more ds e i }))
