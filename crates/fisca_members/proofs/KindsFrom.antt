-- Groups of their own, entity by entity, are those of all entities in place.
use Rattle.std.proofs.Common.{◌≡◌, ℕ, suc, ◌+◌, List, [], ◌∷◌, ◌++◌, append_assoc, length, set, slice_get, Bool, true, false, Option, Some, None, Result, Ok, Err, refl, sym, ap, ◌∙◌, arith, if◌then◌else◌}
use Rattle.std.proofs.lemmas.List.{append-nil}
use Rattle.std.proofs.Math.Seq.{set-append_seam}
use Rattle.fisca_num.specs.Results.{and_then}
use Rattle.fisca_groups.specs.declared.entity_members.EntityMembers.{EntityMembers}
use Rattle.fisca_model.specs.Tables.{Entity}
use Rattle.fisca_members.specs.declared.fault.MembersFault.{MembersFault}
use Rattle.fisca_members.specs.declared.person.Person.{Person}
use Rattle.fisca_members.specs.Steps.Drafts.{drafted, given_or, kinds_from, own_if}
use Rattle.fisca_members.specs.Steps.Groups.{first_role, own_from}
use Rattle.fisca_members.specs.Steps.Members.{changed_at, changed_by, own_of, owns_from}

seam : {X : Type 0} (xs : List X) (y : X) (ys : List X) → slice_get (xs ++ y ∷ ys) (length xs) ≡ Some y
seam [] y ys = refl
seam (x ∷ xs) y ys = seam xs y ys

further : {X : Type 0} (xs : List X) (n : ℕ) → slice_get xs (length xs + n) ≡ None
further [] n = refl
further (x ∷ xs) n = let step : length (x ∷ xs) + n ≡ suc (length xs + n) = omega arith in ap (slice_get (x ∷ xs)) step ∙ further xs n

-- past the members nothing is changed
none_left : (ps : List Person) (ks : List EntityMembers) (n : ℕ) (es : List Entity) → owns_from ps ks (length ks + n) es ≡ Ok ks
none_left ps ks n [] = refl
none_left ps ks n (e ∷ es) =
    let next : suc (length ks + n) ≡ length ks + suc n = omega arith in
    ap (λ r. and_then r (λ js. owns_from ps js (suc (length ks + n)) es)) (same e.is_person)
    ∙ ap (λ m. owns_from ps ks m es) next ∙ none_left ps ks (suc n) es
  where
    same : (b : Bool) → (if b then Ok ks else changed_at ks (length ks + n) (λ k. own_from (first_role e.roles) k 0 ps)) ≡ Ok ks
    same true = refl
    same false = ap (changed_by ks (length ks + n) (λ k. own_from (first_role e.roles) k 0 ps)) (further ks n)

-- the members at hand
one_at : (ps : List Person) (done : List EntityMembers) (k : EntityMembers) (ks : List EntityMembers) (e : Entity)
    → own_of ps (done ++ k ∷ ks) (length done) e ≡ and_then (own_if ps k (Some e)) (λ j. Ok (done ++ j ∷ ks))
one_at ps done k ks e = by e.is_person
  where
    changed : (r : Result EntityMembers MembersFault)
        → and_then r (λ j. Ok (set (done ++ k ∷ ks) (length done) j)) ≡ and_then r (λ j. Ok (done ++ j ∷ ks))
    changed (Ok j) = ap Ok (set-append_seam done k ks j)
    changed (Err f) = refl

    by : (b : Bool) → (if b then Ok (done ++ k ∷ ks) else changed_at (done ++ k ∷ ks) (length done) (λ j. own_from (first_role e.roles) j 0 ps))
        ≡ and_then (if b then Ok k else own_from (first_role e.roles) k 0 ps) (λ j. Ok (done ++ j ∷ ks))
    by true = refl
    by false =
        ap (changed_by (done ++ k ∷ ks) (length done) (λ j. own_from (first_role e.roles) j 0 ps)) (seam done k ks)
        ∙ changed (own_from (first_role e.roles) k 0 ps)

-- one more that is done
pub behind : {X : Type 0} (done : List X) (j : X) → suc (length done) ≡ length (done ++ j ∷ [])
behind [] j = refl
behind (k ∷ done) j = ap suc (behind done j)

same_from : (ps : List Person) (es : List Entity) (place : ℕ) (done ks : List EntityMembers) (rest : List Entity)
    → place ≡ length done → ((i : ℕ) → slice_get es (place + i) ≡ slice_get rest i) → kinds_from ps es place done ks ≡ owns_from ps (done ++ ks) place rest
same_from ps es place done [] rest p h =
    let there : place ≡ length done + 0 = omega (arith, p) in
    let none_behind : owns_from ps done place rest ≡ Ok done = ap (λ m. owns_from ps done m rest) there ∙ none_left ps done 0 rest in
    sym (ap (λ xs. owns_from ps xs place rest) (append-nil done) ∙ none_behind)
same_from ps es place done (k ∷ ks) [] p h =
    let first : place ≡ place + 0 = omega arith in
    let none : slice_get es place ≡ None = ap (slice_get es) first ∙ h 0 in
    let further_on : (i : ℕ) → slice_get es (suc place + i) ≡ None = λ i. (let same : suc place + i ≡ place + suc i = omega arith in ap (slice_get es) same ∙ h (suc i)) in
    let more = same_from ps es (suc place) (done ++ k ∷ []) ks [] (ap suc p ∙ behind done k) further_on in
    ap (λ e. and_then (own_if ps k e) (λ j. kinds_from ps es (suc place) (done ++ j ∷ []) ks)) none ∙ more ∙ ap Ok (append_assoc done (k ∷ []) ks)
same_from ps es place done (k ∷ ks) (e ∷ rest) p h =
    let first : place ≡ place + 0 = omega arith in
    let there : slice_get es place ≡ Some e = ap (slice_get es) first ∙ h 0 in
    let further_on : (i : ℕ) → slice_get es (suc place + i) ≡ slice_get rest i = λ i. (let same : suc place + i ≡ place + suc i = omega arith in ap (slice_get es) same ∙ h (suc i)) in
    ap (λ x. and_then (own_if ps k x) (λ j. kinds_from ps es (suc place) (done ++ j ∷ []) ks)) there
    ∙ by (own_if ps k (Some e)) (λ j. same_from ps es (suc place) (done ++ j ∷ []) ks rest (ap suc p ∙ behind done j) further_on
    ∙ ap (λ xs. owns_from ps xs (suc place) rest) (append_assoc done (j ∷ []) ks))
    ∙ sym (ap (λ m. and_then (own_of ps (done ++ k ∷ ks) m e) (λ js. owns_from ps js (suc place) rest)) p
    ∙ ap (λ r. and_then r (λ js. owns_from ps js (suc place) rest)) (one_at ps done k ks e))
  where
    by : (r : Result EntityMembers MembersFault)
        → ((j : EntityMembers) → kinds_from ps es (suc place) (done ++ j ∷ []) ks ≡ owns_from ps (done ++ j ∷ ks) (suc place) rest)
        → and_then r (λ j. kinds_from ps es (suc place) (done ++ j ∷ []) ks)
        ≡ and_then (and_then r (λ j. Ok (done ++ j ∷ ks))) (λ js. owns_from ps js (suc place) rest)
    by (Ok j) more = more j
    by (Err f) more = refl

-- from the first entity on
pub all_kinds : (ps : List Person) (es : List Entity) (ks : List EntityMembers) → kinds_from ps es 0 [] ks ≡ owns_from ps ks 0 es
all_kinds ps es ks = same_from ps es 0 [] ks es refl (λ i. (let same : 0 + i ≡ i = omega arith in ap (slice_get es) same))

-- one entity more
pub kinds_step : (ps : List Person) (es : List Entity) (place next at : ℕ) (done news : List EntityMembers) (left more : List (Option EntityMembers)) (given : Option EntityMembers)
    (e : Option Entity) (k : EntityMembers) (whole : Result (List EntityMembers) MembersFault) → whole ≡ kinds_from ps es place done (drafted ps left) → left ≡ given ∷ more
    → at ≡ place → e ≡ slice_get es at → own_if ps (given_or ps given) e ≡ Ok k → next ≡ suc place → news ≡ done ++ k ∷ [] → whole ≡ kinds_from ps es next news (drafted ps more)
kinds_step ps es place next at done news left more given e k whole all seen here found own after behind_them =
    all ∙ ap (λ xs. kinds_from ps es place done (drafted ps xs)) seen
    ∙ ap (λ r. and_then r (λ j. kinds_from ps es (suc place) (done ++ j ∷ []) (drafted ps more)))
    (ap (own_if ps (given_or ps given)) (sym (found ∙ ap (slice_get es) here)) ∙ own)
    ∙ (λ i. kinds_from ps es (sym after i) (sym behind_them i) (drafted ps more))

-- the first fault ends it
pub kinds_stop : (ps : List Person) (es : List Entity) (place at : ℕ) (done : List EntityMembers) (left more : List (Option EntityMembers)) (given : Option EntityMembers)
    (e : Option Entity) (f : MembersFault) (whole : Result (List EntityMembers) MembersFault) → whole ≡ kinds_from ps es place done (drafted ps left) → left ≡ given ∷ more
    → at ≡ place → e ≡ slice_get es at → own_if ps (given_or ps given) e ≡ Err f → whole ≡ Err f
kinds_stop ps es place at done left more given e f whole all seen here found own =
    all ∙ ap (λ xs. kinds_from ps es place done (drafted ps xs)) seen
    ∙ ap (λ r. and_then r (λ j. kinds_from ps es (suc place) (done ++ j ∷ []) (drafted ps more)))
    (ap (own_if ps (given_or ps given)) (sym (found ∙ ap (slice_get es) here)) ∙ own)

-- behind the last entity
pub kinds_end : (ps : List Person) (es : List Entity) (place : ℕ) (done : List EntityMembers) (left : List (Option EntityMembers)) (n : ℕ)
    (whole : Result (List EntityMembers) MembersFault) → whole ≡ kinds_from ps es place done (drafted ps left) → n ≡ 0 → n ≡ length left → whole ≡ Ok done
kinds_end ps es place done [] n whole all none count = all
kinds_end ps es place done (given ∷ left) n whole all none count = absurd (omega arith)
