use Rattle.std.proofs.Common.{◌≡◌, ◌+◌, ◌<◌, ◌≤◌, suc, [], ◌∷◌, List, length, drop, drop-cons, ap, ◌∙◌, sym, refl, subst, arith}
use Rattle.std.proofs.Math.ListN.{drop_of_length-le}
use Rattle.fisca_folder.proofs.Laying.{IsUnderWay, begun, ended, further, stopped}
use Rattle.fisca_folder.proofs.layers.lay_all.Goals as goal

pub loop-reform-init : goal.loop-reform-init
loop-reform-init g c = (refl, λ others said. begun g.F.RuleFolder.says c.args.reforms.now others c.args.laid said)

pub returns-in-Err : goal.returns-in-Err
returns-in-Err g c = λ others said.
    let l = c.loop-reform in
    let items = c.args.reforms.now in
    let inside : l.reform-index < length items = c.loop-reform-test.true in
    let cut = drop-cons items l.reform-index c.reform-item.result inside ∙ ap (λ r. r ∷ drop (suc l.reform-index) items) (sym c.reform-item.is) in
    let counted : l.folder + 1 ≡ suc l.reform-index = omega (arith, l.invariant.0) in
    let way = subst (λ rest. IsUnderWay g.F.RuleFolder.says rest others l.reform-index c.args.laid l.laid) cut (l.invariant.1 others said) in
    (l.reform-index, counted, stopped g.F.RuleFolder.says c.reform-item.result (drop (suc l.reform-index) items) others l.reform-index c.args.laid l.laid c.in-Err.fault c.in-Err.ensures way)

pub loop-reform-preserved : goal.loop-reform-preserved
loop-reform-preserved g c =
    let l = c.loop-reform in
    let items = c.args.reforms.now in
    let inside : l.reform-index < length items = c.loop-reform-test.true in
    let cut = drop-cons items l.reform-index c.reform-item.result inside ∙ ap (λ r. r ∷ drop (suc l.reform-index) items) (sym c.reform-item.is) in
    let next : suc l.reform-index ≡ l.reform-index + 1 = omega arith in (
      ap (λ n. n + 1) l.invariant.0,
      λ others said.
          let way = subst (λ rest. IsUnderWay g.F.RuleFolder.says rest others l.reform-index c.args.laid l.laid) cut (l.invariant.1 others said) in
          subst (λ n. IsUnderWay g.F.RuleFolder.says (drop n items) others (l.reform-index + 1) c.args.laid c.in-Ok.laid) next
          (further g.F.RuleFolder.says c.reform-item.result (drop (suc l.reform-index) items) others l.reform-index c.args.laid l.laid c.in-Ok.laid c.in-Ok.ensures way),
    )

pub returns : goal.returns
returns g c = λ others said.
    let l = c.loop-reform in
    let items = c.args.reforms.now in
    let all : length items ≤ l.reform-index = omega (arith, c.loop-reform-test.false) in
    ended g.F.RuleFolder.says others l.reform-index c.args.laid l.laid
    (subst (λ rest. IsUnderWay g.F.RuleFolder.says rest others l.reform-index c.args.laid l.laid) (drop_of_length-le items all) (l.invariant.1 others said))
