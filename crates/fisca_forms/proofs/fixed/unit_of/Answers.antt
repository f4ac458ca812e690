use Rattle.std.proofs.Common.{◌≡◌, ◌^◌, ◌≤◌, ◌∙◌, ap, arith}
use Rattle.std.proofs.Math.Nat.{pow-le-pow_right}
use Rattle.fisca_num.specs.Digits.{ten_pos}
use Rattle.fisca_forms.proofs.fixed.unit_of.Goals as goal

pub returns-clause-some : goal.returns-clause-some
returns-clause-some c =
    let is : c.pow.result ≡ 10 ^ c.args.places = c.pow.ensures ∙ ap (λ k. 10 ^ k) c.from.ensures in
    rw is (ten_pos c.args.places)

pub returns-clause-small : goal.returns-clause-small
returns-clause-small c =
    let is : c.pow.result ≡ 10 ^ c.args.places = c.pow.ensures ∙ ap (λ k. 10 ^ k) c.from.ensures in
    let most : 10 ^ c.args.places ≤ 10 ^ 18 = pow-le-pow_right (omega arith) c.requires in
    rw is most
