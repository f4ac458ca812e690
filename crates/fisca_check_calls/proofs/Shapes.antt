-- How many arguments there are.
use Rattle.std.proofs.Common.{◌≡◌, ◌≢◌, ℕ, List, [], ◌∷◌, length, None, Result, Ok, refl, arith}
use Rattle.std.specs.Prelude.{pos}
use Rattle.fisca_num.specs.Results.{and_then}
use Rattle.fisca_ast.specs.declared.fault.FormulaKind.{FormulaKind}
use Rattle.fisca_typing.specs.Calls.{Settled, by_position, and_keyword, alone, clip_by, clipped, default_in, places_of, round_by, rounded, select_by, select_of, two, where_by}
use Rattle.fisca_typing.specs.Operations.{where_of}
use Rattle.fisca_typing.specs.Things.{Thing, value_of}
use Rattle.fisca_check_calls.specs.Steps.Arguments.{pair, single, triple}

pub where_triple : (ss : List Settled) → where_by (by_position ss) ≡ and_then (triple ss) (λ t.
    and_then (value_of t.0.thing) (λ x. and_then (value_of t.1.thing) (λ y. and_then (value_of t.2.thing) (λ z. where_of x y z))))
where_triple [] = refl
where_triple (a ∷ []) = refl
where_triple (a ∷ b ∷ []) = refl
where_triple (a ∷ b ∷ c ∷ []) = refl
where_triple (a ∷ b ∷ c ∷ d ∷ ss) = refl

pub select_pair : (ss : List Settled) → select_by (by_position ss) ≡ and_then (pair ss) (λ p. select_of p.0.thing p.1.thing (Ok None))
select_pair [] = refl
select_pair (a ∷ []) = refl
select_pair (a ∷ b ∷ []) = refl
select_pair (a ∷ b ∷ c ∷ ss) = refl

pub select_pair_keyword : (ss : List Settled) (k : List ℕ) (x : Thing) → select_by (and_keyword ss k x) ≡ and_then (pair ss) (λ p. select_of p.0.thing p.1.thing (default_in k x))
select_pair_keyword [] k x = refl
select_pair_keyword (a ∷ []) k x = refl
select_pair_keyword (a ∷ b ∷ []) k x = refl
select_pair_keyword (a ∷ b ∷ c ∷ ss) k x = refl

pub two_pair : (ss : List Settled) (f : Settled → Settled → Result Thing FormulaKind) → two (by_position ss) f ≡ and_then (pair ss) (λ p. f p.0 p.1)
two_pair [] f = refl
two_pair (a ∷ []) f = refl
two_pair (a ∷ b ∷ []) f = refl
two_pair (a ∷ b ∷ c ∷ ss) f = refl

pub alone_single : (ss : List Settled) → alone (by_position ss) ≡ single ss
alone_single [] = refl
alone_single (a ∷ []) = refl
alone_single (a ∷ b ∷ ss) = refl

pub clip_triple : (ss : List Settled) → clip_by (by_position ss) ≡ and_then (triple ss) (λ t. clipped t.0.thing t.1.thing t.2.thing)
clip_triple [] = refl
clip_triple (a ∷ []) = refl
clip_triple (a ∷ b ∷ []) = refl
clip_triple (a ∷ b ∷ c ∷ []) = refl
clip_triple (a ∷ b ∷ c ∷ d ∷ ss) = refl

pub round_single : (ss : List Settled) → length ss ≡ 1 → round_by (by_position ss) ≡ and_then (single ss) (λ s. rounded s.thing (pos 0))
round_single [] one = cc
round_single (a ∷ []) one = refl
round_single (a ∷ b ∷ ss) one = absurd (omega (arith, one))

pub round_pair : (ss : List Settled) → length ss ≢ 1 → round_by (by_position ss) ≡ and_then (pair ss) (λ p. and_then (places_of p.1.tree) (rounded p.0.thing))
round_pair [] more = refl
round_pair (a ∷ []) more = absurd (more refl)
round_pair (a ∷ b ∷ []) more = refl
round_pair (a ∷ b ∷ c ∷ ss) more = refl
