use Rattle.std.proofs.Common.{◌≡◌, Some, None, sym, ◌∙◌, arith}
use Rattle.std.proofs.lemmas.Result.{err_from_is_err_and}
use Rattle.fisca_yaml.specs.Views.{node}
use Rattle.fisca_yaml.specs.Grouping.{tree}
use Rattle.fisca_yaml.proofs.Depth.{tree_grow, tree_bounded, document_within, document_long}
use Rattle.fisca_yaml.proofs.reader.read.Goals as goal

pub returns-clause-tree : goal.returns-clause-tree
returns-clause-tree c =
    let n = node c.in_ok-tree.tree in
    let bound = tree_bounded 16 c.args.text.now n c.in_ok-tree.ensures.value in
    ((16, c.in_ok-tree.ensures.value), (omega arith, bound))

pub returns-in_err-tree-clause-only : goal.returns-in_err-tree-clause-only
returns-in_err-tree-clause-only c =
    let p = err_from_is_err_and c.from_residual.result c.from_residual.ensures.1 in
    rw (p.1, p.2) (λ k n t w.
    let found = tree_grow t.0 16 c.args.text.now n t.1 w.1 in
    let none : tree 16 c.args.text.now ≡ None = c.in_err-tree.ensures.value k in
    let never : Some n ≡ None = sym found ∙ none in
    cc)

pub returns-clause-found : goal.returns-clause-found
returns-clause-found c = document_within c.args.text.now (omega arith) ∙ c.in_ok-tree.ensures.value

pub returns-in_err-tree-clause-none : goal.returns-in_err-tree-clause-none
returns-in_err-tree-clause-none c =
    let p = err_from_is_err_and c.from_residual.result c.from_residual.ensures.1 in
    rw (p.1, p.2) (λ k. document_within c.args.text.now (omega arith) ∙ c.in_err-tree.ensures.value k)

pub returns-then-text-gt-MAX_TEXT-clause-none : goal.returns-then-text-gt-MAX_TEXT-clause-none
returns-then-text-gt-MAX_TEXT-clause-none c k = document_long c.args.text.now (omega arith)
