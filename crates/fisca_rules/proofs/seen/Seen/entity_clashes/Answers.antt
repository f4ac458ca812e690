use Rattle.std.proofs.Common.{◌∙◌, ℕ, List, ◌∷◌, refl, sym, ap, subst}
use Rattle.std.proofs.lemmas.Result.{IfOk-weaker}
use Rattle.fisca_rules.proofs.Clash.{clash_of_titles, entity_named_again, entity_notes}
use Rattle.fisca_rules.specs.Clashes.{names_of, titles}
use Rattle.fisca_rules.specs.Steps.Clashes.{titles_clash}
use Rattle.fisca_rules.specs.Seen.{Notes, NotesNames, NotesTitles, all_titles_within, has_name, has_title, has_variable}
use Rattle.fisca_rules.specs.declared.seen.Seen.{Seen}
use Rattle.fisca_ast.specs.Modules.{Assigned, entity}
use Rattle.fisca_ast.specs.ModuleViews.{assigned}
use Rattle.fisca_symbols.specs.declared.role.Role.{Role}
use Rattle.fisca_rules.proofs.seen.Seen.entity_clashes.Goals as goal

pub returns-then-branch : goal.returns-then-branch
returns-then-branch c =
    let a : Assigned = assigned c.args.written.now in
    let first = c.borrowed.ensures ∙ c.as_str-constant.ensures in
    let others = c.in_ok-names.ensures.names in
    entity_named_again c.args.self.now _ a _ _ _ c.in_ok-entity_comes_again.ensures (λ i. first i ∷ others i) c.if-branch.true

pub returns-then-branch-2 : goal.returns-then-branch-2
returns-then-branch-2 c =
    let a : Assigned = assigned c.args.written.now in
    let roles = c.as_slice.ensures ∙ c.in_ok-names.ensures.roles in
    clash_of_titles c.args.self.now _ a (sym c.if-branch-2.true ∙ c.in_ok-are_confused.ensures ∙ ap (λ (rs : List Role). titles_clash (titles rs)) roles)

pub returns : goal.returns
returns c =
    let a : Assigned = assigned c.args.written.now in
    let old : Seen = c.args.self.now in
    let new : Seen = record { names = c.entity_comes_again.new.names; titles = c.some_is_variable.new.titles; variables = old.variables } in
    let constant = c.as_str-constant.ensures in
    let first = c.borrowed.ensures ∙ constant in
    let others = c.in_ok-names.ensures.names in
    let behind = c.in_ok-names.ensures.roles in
    let roles = c.as_slice.ensures ∙ behind in
    let roles_2 = c.as_slice-2.ensures ∙ behind in
    IfOk-weaker c.some_is_variable.result
    (NotesTitles (has_variable old) (has_title old) (has_title new) (all_titles_within c.as_str-constant.result.now c.as_slice-2.result.now)) (Notes old new (entity a))
    (λ b n. entity_notes old new a b
    (subst (λ d. NotesNames (has_name old) (has_name new) (names_of (entity a)) d) c.if-branch.false
    (subst (λ (ts : List (List ℕ)). NotesNames (has_name old) (has_name new) ts c.in_ok-entity_comes_again.field-0) (λ i. first i ∷ others i) c.in_ok-entity_comes_again.ensures))
    (sym c.if-branch-2.false ∙ c.in_ok-are_confused.ensures ∙ ap (λ (rs : List Role). titles_clash (titles rs)) roles)
    (subst (λ (rs : List Role). NotesTitles (has_variable old) (has_title old) (has_title new) (all_titles_within a.name rs) b) roles_2
    (subst (λ (t : List ℕ). NotesTitles (has_variable old) (has_title old) (has_title new) (all_titles_within t c.as_slice-2.result.now) b) constant n))
    (λ w. refl))
    c.some_is_variable.ensures
