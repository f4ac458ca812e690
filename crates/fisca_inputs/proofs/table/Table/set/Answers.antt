use Rattle.std.proofs.Common.{rules}
use Rattle.fisca_inputs.proofs.Numbered.{set_absent, set_here, set_keeps_numbers, set_keeps_occupied, set_keeps_once}
use Rattle.fisca_inputs.proofs.table.Table.set.Goals as goal

pub invariant_of-self : goal.invariant_of-self
invariant_of-self c =
    let t = c.args.self.now in
    let es = t.entries.items in
    record {
      once = set_keeps_once es c.args.key.now c.args.value c.in-Some.place c.index_mut.result.now t.once c.in-Some.ensures c.index_mut.ensures.value;
      notes = search rules;
      buckets = t.buckets;
      own_buckets = set_keeps_occupied es c.args.key.now c.args.value c.in-Some.place c.index_mut.result.now t.once c.in-Some.ensures c.index_mut.ensures.value t.occupied t.own_buckets;
      few = search rules;
      numbered = set_keeps_numbers es c.args.key.now c.args.value c.in-Some.place c.index_mut.result.now t.once c.in-Some.ensures c.index_mut.ensures.value t.pages.entries t.numbered;
    }

pub returns-in-Some : goal.returns-in-Some
returns-in-Some c =
    set_here c.args.self.now.entries.items c.args.key.now c.args.value c.in-Some.place c.index_mut.result.now c.args.self.now.once c.in-Some.ensures c.index_mut.ensures.value

pub returns-in_default : goal.returns-in_default
returns-in_default c = set_absent c.args.self.now.entries.items c.args.key.now c.args.value c.in_default.ensures
