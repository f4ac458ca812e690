use Rattle.std.proofs.Common.{arith, ap, length, rules, ◌∙◌}
use Rattle.std.proofs.lemmas.List.{length_push}
use Rattle.fisca_inputs.proofs.Numbered.{behind_numbered, behind_occupied, behind_once}
use Rattle.fisca_inputs.proofs.table.Table.append.Goals as goal

pub invariant_of-self-in-Ok : goal.invariant_of-self-in-Ok
invariant_of-self-in-Ok c =
    let t = c.args.self.now in
    let es = t.entries.items in
    let pushed = c.in_ok-push.ensures.items in
    let longer = ap length pushed ∙ length_push es (c.args.key, c.args.value) in
    let number = c.in_ok-number.ensures.ok in
    record {
      once = behind_once es c.push.new.self.items c.args.key c.args.value c.requires pushed t.once;
      notes = t.notes;
      buckets = search rules;
      own_buckets = behind_occupied es c.push.new.self.items c.args.key c.args.value c.requires pushed t.occupied c.bucket_of.result c.bucket_of.ensures (omega (arith, c.bucket_of.ensures, t.buckets)) t.own_buckets;
      few = omega (arith, longer, number);
      numbered = behind_numbered es c.push.new.self.items c.args.key c.args.value c.requires pushed t.pages.entries c.note.new.pages.entries c.in_ok-number.number (omega (arith, number, c.len.ensures)) t.numbered c.in-Ok.ensures.ok;
    }
