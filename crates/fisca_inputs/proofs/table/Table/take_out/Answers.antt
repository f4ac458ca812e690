use Rattle.std.proofs.Common.{not, arith}
use Rattle.fisca_inputs.specs.Steps.Inputs.{is_marked}
use Rattle.fisca_inputs.proofs.Numbered.{left_fewer, left_free, left_noted, left_numbered, left_occupied, left_once}
use Rattle.fisca_inputs.proofs.table.Table.take_out.Goals as goal

pub renumber_all-requires-clause-once : goal.renumber_all-requires-clause-once
renumber_all-requires-clause-once c =
    let t = c.args.self.now in
    rw c.as_slice.ensures.value (left_once (λ x. not (is_marked c.args.marks.now x)) t.entries.items c.leave_unmarked.new.entries.items c.leave_unmarked.ensures t.once)

pub renumber_all-requires-clause-noted : goal.renumber_all-requires-clause-noted
renumber_all-requires-clause-noted c =
    let t = c.args.self.now in
    rw c.as_slice.ensures.value
    (left_noted (λ x. not (is_marked c.args.marks.now x)) t.entries.items c.leave_unmarked.new.entries.items c.leave_unmarked.ensures t.pages.entries c.leave_unmarked_pages.new.pages.entries c.leave_unmarked_pages.ensures t.numbered)

pub renumber_all-requires-clause-free : goal.renumber_all-requires-clause-free
renumber_all-requires-clause-free c =
    let t = c.args.self.now in
    rw c.as_slice.ensures.value
    (left_free (λ x. not (is_marked c.args.marks.now x)) t.entries.items c.leave_unmarked.new.entries.items c.leave_unmarked.ensures t.pages.entries c.leave_unmarked_pages.new.pages.entries c.leave_unmarked_pages.ensures t.numbered)

pub invariant_of-self : goal.invariant_of-self
invariant_of-self c =
    let t = c.args.self.now in
    record {
      once = left_once (λ x. not (is_marked c.args.marks.now x)) t.entries.items c.leave_unmarked.new.entries.items c.leave_unmarked.ensures t.once;
      notes = t.notes;
      buckets = t.buckets;
      own_buckets = left_occupied (λ x. not (is_marked c.args.marks.now x)) t.entries.items c.leave_unmarked.new.entries.items c.leave_unmarked.ensures t.occupied t.own_buckets;
      few = omega (arith, left_fewer (λ x. not (is_marked c.args.marks.now x)) t.entries.items c.leave_unmarked.new.entries.items c.leave_unmarked.ensures, t.few);
      numbered = rw c.as_slice.ensures.value at c.renumber_all.ensures;
    }

pub invariant_of-self-else-len-count : goal.invariant_of-self-else-len-count
invariant_of-self-else-len-count c =
    let t = c.args.self.now in
    record {
      once = left_once (λ x. not (is_marked c.args.marks.now x)) t.entries.items c.leave_unmarked.new.entries.items c.leave_unmarked.ensures t.once;
      notes = t.notes;
      buckets = t.buckets;
      own_buckets = left_occupied (λ x. not (is_marked c.args.marks.now x)) t.entries.items c.leave_unmarked.new.entries.items c.leave_unmarked.ensures t.occupied t.own_buckets;
      few = omega (arith, left_fewer (λ x. not (is_marked c.args.marks.now x)) t.entries.items c.leave_unmarked.new.entries.items c.leave_unmarked.ensures, t.few);
      numbered = left_numbered (λ x. not (is_marked c.args.marks.now x)) t.entries.items c.leave_unmarked.new.entries.items t.pages.entries c.leave_unmarked_pages.new.pages.entries c.leave_unmarked.ensures
          (omega (arith, c.len-count.ensures, c.len.ensures, c.if-len-count.false))
          c.leave_unmarked_pages.ensures t.numbered;
    }
