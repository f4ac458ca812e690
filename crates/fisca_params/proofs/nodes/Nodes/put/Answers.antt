use Rattle.std.proofs.Common.{◌≡◌, ◌<◌, ◌++◌, ◌∷◌, [], ap, sym, ◌∙◌, Some, None, string_bytes, get_or, set, length, rules, arith}
use Rattle.std.proofs.lemmas.List.{get_or_append_left, set-append_left}
use Rattle.std.proofs.lemmas.Map.Text.{btree_map_updates_text}
use Rattle.std.specs.BTreeMap.{get_by_text}
use Rattle.std.specs.Map.{update}
use Rattle.std.specs.Str.{bytes_eq}
use Rattle.fisca_params.specs.Tree.{child_of, child_node}
use Rattle.fisca_params.proofs.Indexed.{indexed-put}
use Rattle.fisca_params.proofs.nodes.Nodes.put.Goals as goal

pub invariant_of-self-2 : goal.invariant_of-self-2
invariant_of-self-2 c =
    let was_nodes = c.self.inside.nodes.items in
    let was_tables = c.self.inside.children.items in
    let parent = c.args.parent in
    let old = c.index_mut.result.now in
    let empty = c.new.result in
    let within : parent < length was_nodes = rw (← c.self.view_is) at c.requires.parent in
    let free : child_of was_nodes parent c.args.name.now ≡ None = rw (← c.self.view_is) at c.requires.free in
    let inside : parent < length was_tables = omega (arith, c.self.invariant.tables) in
    let nodes : c.push_reserved.new.self.items ≡ was_nodes ++ child_node parent c.args.name.now c.args.content ∷ [] = search rules in
    let tables : c.push_reserved-2.new.self.items ≡ set was_tables parent c.insert.new.self ++ empty ∷ [] = search rules in
    let was : old ≡ get_or (was_tables ++ empty ∷ []) parent old =
    c.index_mut.ensures.value ∙ ap (λ ts. get_or ts parent old) c.in_ok-reserve-2.ensures.items ∙ sym (get_or_append_left was_tables (empty ∷ []) old parent inside) in
    let key : string_bytes c.in_ok-key.key ≡ c.args.name.now = c.in_ok-key.ensures.ok in
    let place : c.len-place.result ≡ length was_nodes = search rules in
    let updated = btree_map_updates_text (string_bytes c.in_ok-key.key) old c.insert.new.self (Some c.len-place.result) c.in_ok-insert.ensures.updates in
    rw (nodes, tables ∙ sym (set-append_left was_tables (empty ∷ []) parent c.insert.new.self inside))
    (indexed-put was_nodes was_tables parent c.args.name.now c.args.content empty old c.insert.new.self c.self.invariant within free c.new.ensures.empty was
    (λ q. updated q ∙ ap (λ k. update bytes_eq (get_by_text old) k (Some c.len-place.result) q) key ∙ ap (λ n. update bytes_eq (get_by_text old) c.args.name.now (Some n) q) place))
