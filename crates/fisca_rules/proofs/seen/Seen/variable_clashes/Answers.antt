use Rattle.std.proofs.Common.{◌∙◌, ℕ, List, [], ◌∷◌, false, Some, None, refl, sym, ap, subst}
use Rattle.std.specs.Prelude.{map}
use Rattle.std.specs.Str.{bytes_eq}
use Rattle.fisca_rules.proofs.Clash.{clash_of_names, variable_met_here, variable_notes}
use Rattle.fisca_rules.proofs.Some.{or_none}
use Rattle.fisca_rules.specs.Seen.{has_name, has_title, has_variable, same_within}
use Rattle.fisca_rules.specs.Steps.Seen.{entity_named}
use Rattle.fisca_rules.specs.Titles.{Adds}
use Rattle.fisca_rules.specs.declared.seen.Seen.{Seen}
use Rattle.fisca_rules.specs.declared.within.Within.{Within}
use Rattle.fisca_ast.specs.Modules.{variable}
use Rattle.fisca_ast.specs.ModuleViews.{item}
use Rattle.fisca_ast.specs.declared.module.ClassLine.{ClassLine}
use Rattle.fisca_rules.proofs.seen.Seen.variable_clashes.Goals as goal

pub returns-then-branch : goal.returns-then-branch
returns-then-branch c =
    let class = c.args.class.now in
    let old : Seen = c.args.self.now in
    let named = c.borrowed.ensures ∙ c.as_str-name.ensures in
    clash_of_names old _ (variable class.line class.name (map item class.items.items))
    (sym c.if-branch.true ∙ c.in_ok-comes_again.ensures.told ∙ ap (has_name old) named ∙ sym (or_none (has_name old class.name)))

pub returns-in_default : goal.returns-in_default
returns-in_default c =
    let class = c.args.class.now in
    let old : Seen = c.args.self.now in
    let new : Seen = record { names = c.comes_again.new.names; titles = old.titles; variables = old.variables } in
    let named = c.borrowed.ensures ∙ c.as_str-name.ensures in
    variable_notes old new class.line class.name (map item class.items.items) None false
    (c.in_default.ensures ∙ ap (λ (xs : List ClassLine). entity_named (map item xs)) c.as_slice.ensures.value)
    (sym c.if-branch.false ∙ c.in_ok-comes_again.ensures.told ∙ ap (has_name old) named)
    (subst (λ (t : List ℕ). Adds bytes_eq (has_name old) (has_name new) (t ∷ [])) named c.in_ok-comes_again.ensures.noted)
    refl (λ e w. refl) (λ w. refl)

pub returns-then-contains : goal.returns-then-contains
returns-then-contains c =
    let class = c.args.class.now in
    let old : Seen = c.args.self.now in
    let mid : Seen = record { names = c.comes_again.new.names; titles = old.titles; variables = old.variables } in
    let named = c.borrowed.ensures ∙ c.as_str-name.ensures in
    let named_2 = c.borrowed-2.ensures ∙ c.as_str-name.ensures in
    variable_met_here old mid _ class.line class.name c.in-Some.constant (map item class.items.items)
    (c.in-Some.ensures ∙ ap (λ (xs : List ClassLine). entity_named (map item xs)) c.as_slice.ensures.value)
    (sym c.if-branch.false ∙ c.in_ok-comes_again.ensures.told ∙ ap (has_name old) named)
    (subst (λ (t : List ℕ). Adds bytes_eq (has_name old) (has_name mid) (t ∷ [])) named c.in_ok-comes_again.ensures.noted)
    (sym c.if-contains.true ∙ c.contains.ensures ∙ ap (λ (t : List ℕ). has_title old (record { constant = c.in-Some.constant; name = t })) named_2)

pub returns : goal.returns
returns c =
    let class = c.args.class.now in
    let old : Seen = c.args.self.now in
    let new : Seen = record { names = c.comes_again.new.names; titles = old.titles; variables = c.note_within.new.names } in
    let named = c.borrowed.ensures ∙ c.as_str-name.ensures in
    let named_2 = c.borrowed-2.ensures ∙ c.as_str-name.ensures in
    let here : Within = record { constant = c.in-Some.constant; name = class.name } in
    variable_notes old new class.line class.name (map item class.items.items) (Some c.in-Some.constant) false
    (c.in-Some.ensures ∙ ap (λ (xs : List ClassLine). entity_named (map item xs)) c.as_slice.ensures.value)
    (sym c.if-branch.false ∙ c.in_ok-comes_again.ensures.told ∙ ap (has_name old) named)
    (subst (λ (t : List ℕ). Adds bytes_eq (has_name old) (has_name new) (t ∷ [])) named c.in_ok-comes_again.ensures.noted)
    (sym c.if-contains.false ∙ c.contains.ensures ∙ ap (λ (t : List ℕ). has_title old (record { constant = c.in-Some.constant; name = t })) named_2 ∙ sym (or_none (has_title old here)))
    (λ e. subst (λ (t : List ℕ). Adds same_within (has_variable old) (has_variable new) (record { constant = c.in-Some.constant; name = t } ∷ [])) named_2 c.in_ok-note_within.ensures)
    (λ w. refl)
