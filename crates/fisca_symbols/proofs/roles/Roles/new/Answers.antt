use Rattle.std.proofs.Common.{List, map, ◌∙◌, ap}
use Rattle.fisca_symbols.specs.declared.role.Role.{Role}
use Rattle.fisca_symbols.specs.KnownRoles.{roles, title}
use Rattle.fisca_model.specs.Tables.{role_of_constant, role_of_key}
use Rattle.fisca_symbols.proofs.roles.Roles.new.Goals as goal

pub invariant_of-result : goal.invariant_of-result
invariant_of-result c = record {
  by_key = λ t. c.in_ok-keys.ensures t ∙ ap (λ (rs : List Role). role_of_key (roles rs) t) c.as_slice.ensures.value;
  titles = c.in_ok-titles.ensures ∙ ap (λ (rs : List Role). map title (roles rs)) c.as_slice-3.ensures.value;
  by_constant = λ t. c.in_ok-constants.ensures t ∙ ap (λ (rs : List Role). role_of_constant (roles rs) t) c.as_slice-2.ensures.value;
}
