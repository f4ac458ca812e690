use Rattle.std.proofs.Common.{map, sym}
use Rattle.fisca_ast.specs.Views.{argument_view}
use Rattle.fisca_attributes.proofs.Inside.{items_of_series}
use Rattle.fisca_attributes.proofs.lists.parted.Goals as goal

pub returns : goal.returns
returns c = sym (items_of_series c.args.comma (map argument_view c.args.items.now))
