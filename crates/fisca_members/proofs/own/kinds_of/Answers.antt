use Rattle.std.proofs.Common.{◌≡◌, ◌≢◌, ◌∙◌, sym, ap, ◌∷◌, length, map, Err, arith, rules}
use Rattle.std.proofs.lemmas.List.{map-append}
use Rattle.std.specs.Vec.Iter.{into_iter_items}
use Rattle.fisca_symbols.specs.KnownEntities.{entities}
use Rattle.fisca_members.specs.declared.fault.MembersKind.TheVariants.{Memory}
use Rattle.fisca_members.specs.Owned.{kind_in}
use Rattle.fisca_members.specs.Steps.Drafts.{drafted}
use Rattle.fisca_members.specs.Steps.Members.{owns_from}
use Rattle.fisca_members.proofs.KindsFrom.{all_kinds, behind, kinds_end, kinds_step, kinds_stop}
use Rattle.fisca_members.proofs.own.kinds_of.Goals as goal

pub loop-given-preserved : goal.loop-given-preserved
loop-given-preserved c =
    let seen : into_iter_items c.loop-given.given-iterator ≡ c.in-Some.given ∷ into_iter_items c.next.new.self = search rules in
    let here : c.len-in-loop-given.result ≡ length c.loop-given.kinds.items = omega (arith, c.loop-given.kinds.ok.0, c.len-in-loop-given.ensures) in (
      kinds_step _ _ _ _ _ _ _ _ _ _ _ _ _ c.loop-given.invariant.0 seen here c.entity_at-entity.ensures c.in_ok-kind.ensures
          (ap length c.in_ok-push.ensures.items ∙ sym (behind c.loop-given.kinds.items _))
          (ap (map (kind_in c.args.owners.now.told)) c.in_ok-push.ensures.items ∙ map-append (kind_in c.args.owners.now.told) c.loop-given.kinds.items _),
      omega (arith, ap length seen, c.in-Some.ensures.steps.1, c.loop-given.invariant.1),
    )

pub returns-in_err-kind : goal.returns-in_err-kind
returns-in_err-kind c =
    let persons = c.args.persons.now in
    let known = entities c.args.entities.now in
    let fault = c.in_err-kind.field-0.0 in
    let seen : into_iter_items c.loop-given.given-iterator ≡ c.in-Some.given ∷ into_iter_items c.next.new.self = search rules in
    let here : c.len-in-loop-given.result ≡ length c.loop-given.kinds.items = omega (arith, c.loop-given.kinds.ok.0, c.len-in-loop-given.ensures) in
    let told : (fault.kind ≢ Memory → owns_from persons (drafted persons c.args.draft) 0 known ≡ Err fault) =
    λ n. sym (all_kinds persons known (drafted persons c.args.draft))
    ∙ kinds_stop _ _ _ _ _ _ _ _ _ _ _ c.loop-given.invariant.0 seen here c.entity_at-entity.ensures (c.in_err-kind.ensures.0 n) in
    search (rules, told, c.in_err-kind.ensures.1, c.from_residual-in_err-kind.ensures)

pub returns : goal.returns
returns c =
    let persons = c.args.persons.now in
    let known = entities c.args.entities.now in
    sym (all_kinds persons known (drafted persons c.args.draft))
    ∙ kinds_end _ _ _ _ _ _ _ c.loop-given.invariant.0 c.in-None.ensures.steps.0 c.loop-given.invariant.1
