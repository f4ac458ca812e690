use Rattle.std.proofs.Common.{Some, sym, ◌∙◌, ap, option_map}
use Rattle.std.proofs.lemmas.Option.{slice_get-get_or, slice_get_past}
use Rattle.fisca_rules.specs.Views.{dated}
use Rattle.fisca_rules.proofs.Search.{found_last, found_none}
use Rattle.fisca_rules.proofs.in_force.found_by.Goals as goal

pub returns-in-Some-get : goal.returns-in-Some-get
returns-in-Some-get c =
    let ds = c.args.formulas.now in
    let place = c.in-Some.place in
    let look = c.in-Some-get.ensures.lookup in
    let there = slice_get-get_or ds place c.in-Some-get.formula.now look.3.0 ∙ ap Some (sym look.1) in
    sym (ap (option_map dated) there) ∙ found_last c.args.day c.args.starts.now ds place c.requires c.in-Some.ensures

pub returns-in-None-get : goal.returns-in-None-get
returns-in-None-get c =
    let ds = c.args.formulas.now in
    let place = c.in-Some.place in
    sym (ap (option_map dated) (slice_get_past ds place c.in-None-get.ensures.lookup.3)) ∙ found_last c.args.day c.args.starts.now ds place c.requires c.in-Some.ensures

pub returns-in-None : goal.returns-in-None
returns-in-None c = sym (found_none c.args.day c.args.starts.now c.args.formulas.now c.requires c.in-None.ensures)
