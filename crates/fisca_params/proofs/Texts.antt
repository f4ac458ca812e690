-- No node has a name that is no text.
use Rattle.std.proofs.Common.{◌≡◌, ℕ, ◌<◌, false, cond, List, [], ◌∷◌, length, get_or, Some, None, refl, sym, ◌∙◌, ap, subst, arith, inl, inr}
use Rattle.std.proofs.lemmas.Bool.{cases_Bool, cases_lt}
use Rattle.std.proofs.lemmas.Map.Text.{is_eq-slice_cmp}
use Rattle.std.proofs.lemmas.Slice.Eq.{bytes_eq-Decides}
use Rattle.std.proofs.lemmas.Str.{IsUtf8-string_bytes}
use Rattle.std.specs.BTreeMap.{BTreeMap, is_at}
use Rattle.std.specs.Cmp.Lexicographic.{slice_cmp}
use Rattle.std.specs.Map.{lookup}
use Rattle.std.specs.Ordering.{is_eq, nat_cmp}
use Rattle.std.specs.Prelude.{String, string_bytes}
use Rattle.std.specs.Str.{IsUtf8, bytes_eq}
use Rattle.std.specs.declared.alloc.Global.{Global}
use Rattle.fisca_params.specs.Tree.{TreeNode, child_of}
use Rattle.fisca_params.specs.Nodes.{IsIndexed}

abbrev Table : Type 0
Table = BTreeMap (String Global) ℕ

other-name : (bs : List ℕ) (k : String Global) → ¬ IsUtf8 bs → is_eq (slice_cmp nat_cmp bs (string_bytes k)) ≡ false
other-name bs k h =
    elim (cases_Bool (bytes_eq bs (string_bytes k))) [
      | inl t ↦ let same : string_bytes k ≡ bs = sym ((bytes_eq-Decides bs (string_bytes k)).0 t) in absurd (h (subst (λ (t : List ℕ). IsUtf8 t) same (IsUtf8-string_bytes k)))
      | inr f ↦ is_eq-slice_cmp bs (string_bytes k) ∙ f
    ]

no-entry : (bs : List ℕ) → ¬ IsUtf8 bs → (es : List (String Global × ℕ)) → lookup (is_at (λ k. slice_cmp nat_cmp bs (string_bytes k))) es ≡ None
no-entry bs h [] = refl
no-entry bs h (e ∷ es) = ap (λ v. cond v (Some e.1) (lookup (is_at (λ k. slice_cmp nat_cmp bs (string_bytes k))) es)) (other-name bs e.0 h) ∙ no-entry bs h es

some_table : (nodes : List TreeNode) (children : List Table) → length children ≡ length nodes → 0 < length nodes → Table
some_table nodes [] e h = absurd (omega arith)
some_table nodes (t ∷ ts) e h = t

pub no-child : (nodes : List TreeNode) (children : List Table) → IsIndexed nodes children → (place : ℕ) (bs : List ℕ) → ¬ IsUtf8 bs → None ≡ child_of nodes place bs
no-child nodes children i place bs h =
    elim (cases_lt place (length nodes)) [
      | inl lt ↦ let d = some_table nodes children i.tables i.some in sym (no-entry bs h (get_or children place d).entries) ∙ i.found place d lt bs
      | inr le ↦ sym (i.below place le bs)
    ]
