use Rattle.std.proofs.Common.{◌≡◌, length, arith}
use Rattle.std.specs.Str.{bytes_eq}
use Rattle.fisca_symbols.proofs.Places.{noted_behind}
use Rattle.fisca_symbols.proofs.names.Names.with.Goals as goal

pub invariant_of-result : goal.invariant_of-result
invariant_of-result c t =
    let count : c.len.result ≡ length c.self.inside.items.items = omega (arith, c.self.inside.items.ok.0, c.len.ensures) in
    noted_behind (λ k. bytes_eq k t) c.self.inside.items.items c.push.new.self.items c.args.name c.in_ok-copied.field-0 c.len.result _ _
    c.in_ok-copied.ensures count c.in_ok-push.ensures.items (c.self.invariant t) (c.in_ok-note.ensures t)
