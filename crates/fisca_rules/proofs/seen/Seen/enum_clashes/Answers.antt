use Rattle.std.proofs.Common.{◌≡◌, ◌∙◌, ℕ, List, [], ◌∷◌, refl, sym, ap, subst}
use Rattle.std.proofs.lemmas.Result.{IfOk-weaker}
use Rattle.std.specs.Str.{bytes_eq}
use Rattle.fisca_rules.proofs.Clash.{choices_clash, choices_tell}
use Rattle.fisca_rules.specs.Steps.Clashes.{repeated_member}
use Rattle.fisca_rules.specs.Seen.{TellsOne, has_name}
use Rattle.fisca_rules.specs.Titles.{Adds}
use Rattle.fisca_rules.specs.declared.seen.Seen.{Seen}
use Rattle.fisca_ast.specs.Modules.{choices}
use Rattle.fisca_rules.proofs.seen.Seen.enum_clashes.Goals as goal

pub returns-then-branch : goal.returns-then-branch
returns-then-branch c =
    let class = c.args.class.now in
    let old = c.args.self.now in
    let named = c.borrowed.ensures ∙ c.as_str.ensures in
    choices_clash old _ class.line class.name class.members.items
    (sym c.if-branch.true ∙ c.in_ok-comes_again.ensures.told ∙ ap (has_name old) named)

pub returns : goal.returns
returns c =
    let class = c.args.class.now in
    let members = class.members.items in
    let old : Seen = c.args.self.now in
    let new : Seen = record { names = c.comes_again.new.names; titles = old.titles; variables = old.variables } in
    let named = c.borrowed.ensures ∙ c.as_str.ensures in
    IfOk-weaker c.repeated_member.result (λ line. line ≡ repeated_member [] c.as_slice.result.now) (TellsOne old new (choices class.line class.name members))
    (λ o same. choices_tell old new class.line class.name members o
    (sym c.if-branch.false ∙ c.in_ok-comes_again.ensures.told ∙ ap (has_name old) named)
    (subst (λ (t : List ℕ). Adds bytes_eq (has_name old) (has_name new) (t ∷ [])) named c.in_ok-comes_again.ensures.noted)
    (same ∙ ap (repeated_member []) c.as_slice.ensures.value)
    (λ w. refl) (λ w. refl))
    c.repeated_member.ensures
