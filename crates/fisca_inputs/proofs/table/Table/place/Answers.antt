use Rattle.std.proofs.Common.{sym, ◌∙◌, arith}
use Rattle.fisca_inputs.proofs.Numbered.{none_numbered, bucket_free, stands_by_number}
use Rattle.fisca_inputs.proofs.table.Table.place.Goals as goal

pub returns-then-not-self-bucket_of : goal.returns-then-not-self-bucket_of
returns-then-not-self-bucket_of c =
    let t = c.args.self.now in
    bucket_free t.occupied t.entries.items c.args.key.now t.own_buckets (rw c.bucket_of.ensures at c.if-not-self-bucket_of.true)

pub returns-in-0 : goal.returns-in-0
returns-in-0 c =
    let t = c.args.self.now in
    none_numbered t.entries.items c.args.key.now (sym (t.numbered c.args.key.now) ∙ (sym c.number.ensures ∙ c.in-0.is))

pub returns-in_default : goal.returns-in_default
returns-in_default c =
    let t = c.args.self.now in
    stands_by_number t.entries.items c.args.key.now c.number.result (c.number.ensures ∙ t.numbered c.args.key.now) (omega (arith, c.in_default))
