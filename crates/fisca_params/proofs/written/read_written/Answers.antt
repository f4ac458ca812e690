use Rattle.std.proofs.Common.{◌≡◌, ◌+◌, ◌∙◌, ◌&&◌, true, ap, sym, refl, drop, map, Option, Some, None, option_map, is_some, if◌then◌else◌, arith}
use Rattle.std.proofs.lemmas.List.{map-append}
use Rattle.fisca_time.specs.Instant.{CivilDate}
use Rattle.fisca_yaml.specs.Node.{Node}
use Rattle.fisca_yaml.specs.Views.{node, entries_view}
use Rattle.fisca_params.specs.Content.{Written, written_if_both, date_of, first_line}
use Rattle.fisca_params.specs.Steps.Content.{written_values, written_value, onto}
use Rattle.fisca_params.specs.FaultLines.{is_dated}
use Rattle.fisca_params.specs.Written.{seen}
use Rattle.fisca_params.proofs.Walks.{entries-drop, after, after-one}
use Rattle.fisca_params.proofs.written.read_written.Goals as goal

both_there : (d : Option CivilDate) (v : Option Node) (w : Written) → Some w ≡ written_if_both d v → (is_some d && is_some v) ≡ true
both_there None v w h = cc
both_there (Some d) None w h = cc
both_there (Some d) (Some v) w h = refl

pub loop-entry-preserved : goal.loop-entry-preserved
loop-entry-preserved c =
    let e = c.entry-item.result in
    let left = entries_view (drop (c.loop-entry.entry-index + 1) c.args.entries.now) in
    let done = map seen c.loop-entry.values.items in
    let cut = entries-drop c.args.entries.now c.loop-entry.entry-index e (omega arith) c.entry-item.is in
    let read : Some (seen c.in-Some.written) ≡ written_if_both (date_of e.key) (written_value (node e.value)) = sym (ap (option_map seen) c.in-Some.is) ∙ c.read.ensures in (
      c.loop-entry.invariant.0
          ∙ ap (λ es. after done (written_values es)) cut
          ∙ ap (λ w. after done (onto w (written_values left))) (sym read)
          ∙ after-one done (seen c.in-Some.written) (written_values left)
          ∙ ap (λ vs. after vs (written_values left)) (sym (ap (map seen) c.in-Ok.ensures.items ∙ map-append seen c.loop-entry.values.items _)),
      c.loop-entry.invariant.1 ∙ ap (first_line is_dated) cut ∙ ap (λ b. if b then first_line is_dated left else Some e.line) (both_there (date_of e.key) (written_value (node e.value)) (seen c.in-Some.written) read),
    )
