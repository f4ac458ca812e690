use Rattle.std.proofs.Common.{List, ℕ, ◌∷◌, refl, subst}
use Rattle.std.proofs.lemmas.Result.{IfOk-weaker}
use Rattle.std.specs.Prelude.{map}
use Rattle.fisca_rules.proofs.Confused.{notes_here, notes_next}
use Rattle.fisca_rules.specs.Titles.{Notes, subrole, whole}
use Rattle.fisca_rules.proofs.titles.Titles.role_comes_again.Goals as goal

pub returns-then-branch : goal.returns-then-branch
returns-then-branch c =
    notes_here c.args.self.now c.title_comes_again.new.self c.title_comes_again.new.self _ _ _ _ c.in_ok-title_comes_again.ensures refl c.if-branch.true

pub returns : goal.returns
returns c =
    let role = c.args.role.now in
    let old = c.args.self.now in
    let mid = c.title_comes_again.new.self in
    let new = c.subrole_comes_again.new.self in
    IfOk-weaker c.subrole_comes_again.result (Notes mid new (map subrole c.as_slice.result.now)) (Notes old new (whole role ∷ map subrole role.subroles))
    (λ b n. notes_next old mid new (whole role) (whole role) (map subrole role.subroles) b _ c.in_ok-title_comes_again.ensures refl c.if-branch.false
    (subst (λ (ks : List (List ℕ)). Notes mid new (map subrole ks) b) c.as_slice.ensures n))
    c.subrole_comes_again.ensures
