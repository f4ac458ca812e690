use Rattle.std.proofs.Common.{◌++◌, ◌∷◌, [], arith, ap, ◌∙◌, length}
use Rattle.fisca_inputs.specs.Entries.{Entries}
use Rattle.fisca_inputs.specs.declared.table.Table.{Table}
use Rattle.fisca_inputs.proofs.Puts.{put_is}
use Rattle.fisca_inputs.proofs.inputs.Inputs.put.Goals as goal

pub returns : goal.returns
returns c =
    let same = ap length c.self.view_is in
    let here = ap (λ (t : Table). length t.entries.items) c.deref.ensures in
    let lent = ap (λ (t : Table). t.entries.items) c.deref_mut.ensures.value in
    let entries = c.in_ok-append.ensures.ok ∙ ap (λ (es : Entries). es ++ (c.args.key, c.args.value) ∷ []) (lent ∙ c.self.view_is) in
    put_is c.args.line c.args.key c.args.value c.args.self.now c.append.new.self.entries.items (omega (arith, same, here, c.len.ensures, c.if-len-ge-LIMIT.false)) entries
