-- What the methods of a text find in a path.
use Rattle.std.proofs.Common.{◌≡◌, ℕ, ◌-◌, ◌<◌, ◌∷◌, [], true, false, eqb, List, length, take, Option, Some, None, option_map, MatchOption, refl, ap, ◌∙◌, ◌+◌, arith, count_by, length-drop}
use Rattle.std.proofs.lemmas.Str.Pattern.{ends_text}
use Rattle.std.specs.Str.Pattern.{FindsTextSuffix, StripsSuffix}
use Rattle.fisca_params.specs.Paths.{names_in}
use Rattle.fisca_params.specs.Steps.Paths.{without_ending}
use Rattle.std.specs.List.{position_or_len, before_first, after_first}
use Rattle.std.proofs.lemmas.List.Splits.{slice_split_none, slice_split_first, length-slice_split}
use Rattle.std.proofs.lemmas.List.Sums.{fails_before_first}
use Rattle.fisca_yaml.specs.Node.{Node}
use Rattle.fisca_num.specs.Results.{and_then}
use Rattle.fisca_params.specs.Tree.{TreeNode}
use Rattle.fisca_params.specs.Steps.Tree.{put_below, enter}
use denote.Ref.{Bor}

pub none_if_not : {X : Type 0} (o : Option X) → ((x : X) → o ≡ Some x → ⊥) → o ≡ None
none_if_not None h = refl
none_if_not (Some x) h = absurd (h x refl)

pub ending_is : (n s : List ℕ) (r : Option (Bor (List ℕ))) → MatchOption r (FindsTextSuffix n s None) (λ x. StripsSuffix (FindsTextSuffix n) s x.now)
    → option_map (λ x. x.now) r ≡ without_ending n s
ending_is n s None h = rw (← ends_text false n s h) refl
ending_is n s (Some x) h = rw (← ends_text true n s (h.0, h.1, omega (arith, h.3), rw h.1.0 h.1.2)) (ap Some (h.2 ∙ ap (λ k. take (length s - k) s) h.1.0))

whole_name : (path : List ℕ) → position_or_len (λ b. eqb b 47) path ≡ length path → names_in path ≡ path ∷ []
whole_name path none = slice_split_none (λ b. eqb b 47) path (λ k d h. fails_before_first (λ b. eqb b 47) path k d (omega arith))

shorter : (path : List ℕ) → position_or_len (λ b. eqb b 47) path < length path → length (after_first (λ b. eqb b 47) path) < length path
shorter path h =
    let cut : length (after_first (λ b. eqb b 47) path) ≡ length path - (position_or_len (λ b. eqb b 47) path + 1) = length-drop (position_or_len (λ b. eqb b 47) path + 1) path in
    omega (arith, cut)

-- the first name, and those of the rest
pub names_cut : (path : List ℕ) (r : Option (Bor (List ℕ) × Bor (List ℕ)))
    → MatchOption r (position_or_len (λ b. eqb b 47) path ≡ length path) (λ x. (position_or_len (λ b. eqb b 47) path < length path) × (x.0.now ≡ before_first (λ b. eqb b 47) path) × (x.1.now ≡ after_first (λ b. eqb b 47) path))
    → MatchOption r (names_in path ≡ path ∷ []) (λ x. (names_in path ≡ x.0.now ∷ names_in x.1.now) × (length x.1.now < length path))
names_cut path None h = whole_name path h
names_cut path (Some x) h =
    (rw (h.1, h.2) (slice_split_first (λ b. eqb b 47) path 0 h.0), rw h.2 (shorter path h.0))

put_names : (t : List TreeNode) (folder : ℕ) (name : List ℕ) (names : List (List ℕ)) (c : ℕ) (n : Node) → length names ≡ c + 1 →
    put_below t folder (name ∷ names) n ≡ and_then (enter t folder name) (λ e. put_below e.tree e.place names n)
put_names t folder name [] c n h = absurd (omega arith)
put_names t folder name (m ∷ ms) c n h = refl

-- below the folder of the first name, the rest of a path
pub put-cut : (t : List TreeNode) (folder : ℕ) (name rest : List ℕ) (n : Node) →
    put_below t folder (name ∷ names_in rest) n ≡ and_then (enter t folder name) (λ e. put_below e.tree e.place (names_in rest) n)
put-cut t folder name rest n = put_names t folder name (names_in rest) (count_by (λ b. eqb b 47) rest) n (length-slice_split (λ b. eqb b 47) rest)
