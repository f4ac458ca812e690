-- Nodes of one kind.
use Rattle.std.proofs.Common.{◌≡◌, ℕ, List, length, Bool, true, false, if◌then◌else◌, Option, Some, None, Result, Ok, Err, refl, ◌∙◌, ap}
use Rattle.std.specs.List.{list_all}
use Rattle.fisca_params.specs.Tree.{TreeNode}
use Rattle.fisca_params.specs.declared.content.NodeKind.{NodeKind}
use Rattle.fisca_ast.specs.Outcomes.{Gives}
use Rattle.fisca_ast.specs.declared.fault.FormulaKind.{FormulaKind}
use Rattle.fisca_typing.specs.declared.kinds.Level.{Level}
use Rattle.fisca_num.specs.Results.{and_then}
use Rattle.fisca_typing.specs.Nodes.{Node, Indices, no_index, index, behind}
use Rattle.fisca_typing.specs.Parameters.{is_number, is_bool, is_node, kinds_at, children_below, of_one_kind, thing_chosen, chosen_thing}
use Rattle.fisca_typing.specs.Things.{Thing, Chosen}
use Rattle.fisca_typing.specs.Types.{bad_type}
use Rattle.fisca_check_calls.specs.declared.parameters.Wanted.{Wanted}
use Rattle.fisca_check_calls.specs.declared.parameters.Wanted.TheVariants as wanted
use Rattle.fisca_check_calls.specs.Parameters.{one_kind, Alike, alike, alike_below, thing_of_kind, chosen_among, chosen_by}

-- what nodes stand for, by the kind that all are of
abbrev pub by_kind : Chosen → Option Wanted → Result Thing FormulaKind
by_kind c (Some w) = thing_of_kind w c
by_kind c None = bad_type

kind_by : (c : Chosen) (a b d : Bool) →
    (if a then thing_of_kind wanted.Numbers c else (if b then thing_of_kind wanted.Bools c else (if d then thing_of_kind wanted.Nodes c else bad_type)))
    ≡ by_kind c (if a then Some wanted.Numbers else (if b then Some wanted.Bools else (if d then Some wanted.Nodes else None)))
kind_by c true b d = refl
kind_by c false true d = refl
kind_by c false false true = refl
kind_by c false false false = refl

pub one_kind_by : (c : Chosen) (ks : List NodeKind) → of_one_kind c ks ≡ by_kind c (one_kind ks)
one_kind_by c ks = kind_by c (list_all is_number ks) (list_all is_bool ks) (list_all is_node ks)

-- where an index chooses, none is a scale alone
indexed : (c : Chosen) (is : Indices) (n : Node) (s : ℕ) (ps : List ℕ) (ks : List NodeKind) → chosen_thing c (behind is n s) ps ks ≡ of_one_kind c ks
indexed c no_index n s ps ks = refl
indexed c (index m k is) n s ps ks = refl

kind_then : (c : Chosen) (l : Level) (n : Node) (s : ℕ) (ps : List ℕ) (o : Option Wanted) →
    by_kind (record { level = l; indices = behind c.indices n s; places = ps; moves = c.moves }) o ≡ and_then (alike ps o) (λ a. chosen_among a c l n s)
kind_then c l n s ps None = refl
kind_then c l n s ps (Some w) = refl

found_then : (ns : List TreeNode) (c : Chosen) (l : Level) (n : Node) (s : ℕ) (r : Result (List ℕ) FormulaKind) →
    and_then r (λ ps. thing_chosen ns (record { level = l; indices = behind c.indices n s; places = ps; moves = c.moves }))
    ≡ and_then (and_then r (λ ps. alike ps (one_kind (kinds_at ns ps)))) (λ a. chosen_among a c l n s)
found_then ns c l n s (Err k) = refl
found_then ns c l n s (Ok ps) =
    indexed (record { level = l; indices = behind c.indices n s; places = ps; moves = c.moves }) c.indices n s ps (kinds_at ns ps)
    ∙ one_kind_by (record { level = l; indices = behind c.indices n s; places = ps; moves = c.moves }) (kinds_at ns ps)
    ∙ kind_then c l n s ps (one_kind (kinds_at ns ps))

pub by_children : (ns : List TreeNode) (c : Chosen) (l : Level) (n : Node) (ts : List (List ℕ)) →
    chosen_by ns c l n ts ≡ and_then (alike_below ns c.places ts) (λ a. chosen_among a c l n (length ts))
by_children ns c l n ts = found_then ns c l n (length ts) (children_below ns c.places ts)

-- by children that are found
pub by_found : (ns : List TreeNode) (c : Chosen) (l : Level) (n : Node) (ts : List (List ℕ)) (a : Alike) →
    alike_below ns c.places ts ≡ Ok a → chosen_by ns c l n ts ≡ chosen_among a c l n (length ts)
by_found ns c l n ts a h = by_children ns c l n ts ∙ ap (λ r. and_then r (λ b. chosen_among b c l n (length ts))) h

pub by_fault : (ns : List TreeNode) (c : Chosen) (l : Level) (n : Node) (ts : List (List ℕ)) (k : FormulaKind) →
    alike_below ns c.places ts ≡ Err k → chosen_by ns c l n ts ≡ Err k
by_fault ns c l n ts k h = by_children ns c l n ts ∙ ap (λ r. and_then r (λ b. chosen_among b c l n (length ts))) h

pub gives_same : {X Y : Type 0} (view : X → Y) (o p : Result Y FormulaKind) (r : Result X FormulaKind) → Gives view o r → p ≡ o → Gives view p r
gives_same view o p (Ok x) g e = e ∙ g
gives_same view o p (Err k) g e = λ h. e ∙ g h
