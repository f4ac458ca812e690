-- Members of an Enum, noted one after another.
use Rattle.std.proofs.Common.{◌≡◌, ℕ, List, [], ◌∷◌, ◌++◌, Bool, false, Option, Some, sym, ap, ◌∙◌, if◌then◌else◌}
use Rattle.std.specs.Str.{bytes_eq}
use Rattle.fisca_rules.proofs.Some.{one_more, or_none}
use Rattle.fisca_rules.specs.Clashes.{among, is_order}
use Rattle.fisca_rules.specs.Steps.Clashes.{repeated_member}
use Rattle.fisca_rules.specs.Titles.{Adds}
use Rattle.fisca_ast.specs.declared.module.Member.{Member}

-- these names came before, and the rest decides
pub record Reached (has : List ℕ → Bool) (whole : Option ℕ) (rest : List Member) : Type 0 where
  pub earlier : List (List ℕ)
  pub held : (t : List ℕ) → has t ≡ among earlier t
  pub same : whole ≡ repeated_member earlier rest

-- a member with a new name
pub member_new : (has new : List ℕ → Bool) (whole : Option ℕ) (m : Member) (ms : List Member) (b c : Bool)
    → Reached has whole (m ∷ ms) → b ≡ is_order m → b ≡ false → c ≡ has m.name → c ≡ false → Adds bytes_eq has new (m.name ∷ []) → Reached new whole ms
member_new has new whole m ms b c r order member told first noted = record {
  earlier = r.earlier ++ m.name ∷ [];
  held = λ t. one_more (λ u. bytes_eq u t) r.earlier m.name _ _ _ (noted t) (r.held t) (or_none (bytes_eq m.name t));
  same =
      r.same
      ∙ ap (λ d. if d then repeated_member r.earlier ms else (if among r.earlier m.name then Some m.line else repeated_member (r.earlier ++ m.name ∷ []) ms)) (sym order ∙ member)
      ∙ ap (λ d. if d then Some m.line else repeated_member (r.earlier ++ m.name ∷ []) ms) (sym (r.held m.name) ∙ sym told ∙ first);
}
