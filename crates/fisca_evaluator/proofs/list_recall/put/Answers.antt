use Rattle.std.proofs.Common.{◌∙◌, sym, subst, ap, arith}
use Rattle.std.specs.Map.{lookup}
use Rattle.fisca_inputs.specs.Entries.{same_key}
use Rattle.fisca_inputs.specs.Places.{AreOnce}
use Rattle.fisca_evaluator.specs.Found.{place_from}
use Rattle.fisca_evaluator.proofs.Finds.{placed_within, placed_put, placed_once, last_put, last_once}
use Rattle.fisca_evaluator.proofs.list_recall.put.Goals as goal

pub index_mut-requires : goal.index_mut-requires
index_mut-requires c =
    let within = placed_within c.args.key c.args.known c.in-Some.place c.as_slice.result.now (sym c.place_of.ensures ∙ c.in-Some.is) in
    omega (arith, within, c.as_slice.ensures.len)

pub returns-in-Some-clause-ok : goal.returns-in-Some-clause-ok
returns-in-Some-clause-ok c =
    placed_put c.args.key c.args.known c.in-Some.place c.args.pairs.now.items (ap (place_from 0 c.args.key) (sym c.as_slice.ensures.value) ∙ sym c.place_of.ensures ∙ c.in-Some.is)

pub returns-in-Some-clause-once : goal.returns-in-Some-clause-once
returns-in-Some-clause-once c =
    placed_once c.args.key c.args.known c.in-Some.place c.args.pairs.now.items (ap (place_from 0 c.args.key) (sym c.as_slice.ensures.value) ∙ sym c.place_of.ensures ∙ c.in-Some.is) c.requires

pub returns-in_ok-push-in-None-clause-ok : goal.returns-in_ok-push-in-None-clause-ok
returns-in_ok-push-in-None-clause-ok c k =
    ap (lookup (same_key k)) c.in_ok-push-in-None.ensures.items
    ∙ last_put c.args.key c.args.known 0 c.args.pairs.now.items (ap (place_from 0 c.args.key) (sym c.as_slice.ensures.value) ∙ sym c.place_of.ensures ∙ c.in-None.is) k

pub returns-in_ok-push-in-None-clause-once : goal.returns-in_ok-push-in-None-clause-once
returns-in_ok-push-in-None-clause-once c =
    subst AreOnce (sym c.in_ok-push-in-None.ensures.items) (last_once c.args.key c.args.known 0 c.args.pairs.now.items (ap (place_from 0 c.args.key) (sym c.as_slice.ensures.value) ∙ sym c.place_of.ensures ∙ c.in-None.is) c.requires)
