use Rattle.std.proofs.Common.{◌≡◌, ◌∙◌, rules}
use Rattle.fisca_yaml.specs.Views.{node}
use Rattle.fisca_params.specs.Files.{with_file}
use Rattle.fisca_params.specs.Paths.{names_in}
use Rattle.fisca_params.specs.Steps.Tree.{put_below}
use Rattle.fisca_params.proofs.Refusals.{refuses-in}
use Rattle.fisca_params.proofs.read.put_source.Goals as goal

pub returns-clause-refused : goal.returns-clause-refused
returns-clause-refused c =
    let nodes = c.args.nodes.now in
    let is : with_file nodes c.args.source.now ≡ put_below nodes 0 (names_in c.in-Some.path.now) (node c.in-Ok.tree) = search rules in
    λ next. rw c.in_file.ensures (refuses-in c.args.file c.in-Err-put_below.fault (with_file nodes c.args.source.now) next (λ cause told. is ∙ c.in-Err-put_below.ensures cause told))
