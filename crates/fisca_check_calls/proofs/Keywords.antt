-- Arguments by position and by keyword.
use Rattle.std.proofs.Common.{◌≡◌, ℕ, List, [], ◌∷◌, ◌++◌, Bool, true, false, ◌||◌, Option, Some, None, refl, sym, ◌∙◌, ap}
use Rattle.std.proofs.lemmas.List.{map-append}
use Rattle.std.specs.Prelude.{is_some}
use Rattle.fisca_typing.specs.Calls.{Settled, Positions, by_position, and_keyword, more_keywords, in_front, put, before_keyword, positions}
use Rattle.fisca_typing.specs.Things.{Thing}
use Rattle.fisca_check_calls.specs.Arguments.{all_settled, any_keyword, settled}
use Rattle.fisca_check_calls.specs.declared.arguments.Settled.{Settled as Held}

first_none : (k : Option (List ℕ)) (b : Bool) → (is_some k || b) ≡ false → k ≡ None
first_none None b e = refl
first_none (Some k) b e = cc

rest_none : (k : Option (List ℕ)) (b : Bool) → (is_some k || b) ≡ false → b ≡ false
rest_none None b e = e
rest_none (Some k) b e = cc

put_none : (k : Option (List ℕ)) (s : Settled) (ss : List Settled) (o : Positions) → k ≡ None → put k s ss o ≡ in_front s o
put_none None s ss o e = refl
put_none (Some k) s ss o e = cc

pub all_by_position : (ss : List Settled) → any_keyword ss ≡ false → positions ss ≡ by_position ss
all_by_position [] e = refl
all_by_position (s ∷ ss) e =
    put_none s.keyword s ss (positions ss) (first_none s.keyword (any_keyword ss) e) ∙ ap (in_front s) (all_by_position ss (rest_none s.keyword (any_keyword ss) e))

put_last : (k : Option (List ℕ)) (t : List ℕ) (s : Settled) → k ≡ Some t → put k s [] (by_position []) ≡ and_keyword [] t s.thing
put_last None t s e = cc
put_last (Some k) t s e = let same : k ≡ t = cc in ap (λ n. and_keyword [] n s.thing) same

pub last_by_keyword : (ss : List Settled) (s : Settled) (k : List ℕ) → any_keyword ss ≡ false → s.keyword ≡ Some k → positions (ss ++ s ∷ []) ≡ and_keyword ss k s.thing
last_by_keyword [] s k e h = put_last s.keyword k s h
last_by_keyword (a ∷ ss) s k e h =
    put_none a.keyword a (ss ++ s ∷ []) (positions (ss ++ s ∷ [])) (first_none a.keyword (any_keyword ss) e)
    ∙ ap (in_front a) (last_by_keyword ss s k (rest_none a.keyword (any_keyword ss) e) h)

more_behind : (k : List ℕ) (x : Thing) (ss : List Settled) (s : Settled) → before_keyword k x (ss ++ s ∷ []) ≡ more_keywords
more_behind k x [] s = refl
more_behind k x (a ∷ ss) s = refl

put_more : (k : Option (List ℕ)) (b : Bool) (a : Settled) (ss : List Settled) (s : Settled) (o : Positions) →
    (is_some k || b) ≡ true → (b ≡ true → o ≡ more_keywords) → put k a (ss ++ s ∷ []) o ≡ more_keywords
put_more None b a ss s o e h = ap (in_front a) (h e)
put_more (Some k) b a ss s o e h = more_behind k a.thing ss s

pub keyword_in_front : (ss : List Settled) (s : Settled) → any_keyword ss ≡ true → positions (ss ++ s ∷ []) ≡ more_keywords
keyword_in_front [] s e = cc
keyword_in_front (a ∷ ss) s e = put_more a.keyword (any_keyword ss) a ss s (positions (ss ++ s ∷ [])) e (keyword_in_front ss s)

last_none : (b : Bool) (k : Option (List ℕ)) → k ≡ None → (b || (is_some k || false)) ≡ b
last_none true k e = refl
last_none false None e = refl
last_none false (Some k) e = cc

pub any_last : (ss : List Settled) (s : Settled) → s.keyword ≡ None → any_keyword (ss ++ s ∷ []) ≡ any_keyword ss
any_last [] s e = last_none false s.keyword e
any_last (a ∷ ss) s e = ap (λ b. is_some a.keyword || b) (any_last ss s e)

-- all arguments are those in front and a last one

seen_last : (all front : List Held) (last : Held) → all ≡ front ++ last ∷ [] → all_settled all ≡ all_settled front ++ settled last ∷ []
seen_last all front last e = ap all_settled e ∙ map-append settled front (last ∷ [])

pub more_in_front : (all front : List Held) (last : Held) → all ≡ front ++ last ∷ [] → any_keyword (all_settled front) ≡ true → more_keywords ≡ positions (all_settled all)
more_in_front all front last e h = sym (ap positions (seen_last all front last e) ∙ keyword_in_front (all_settled front) (settled last) h)

pub one_at_the_end : (all front : List Held) (last : Held) (k : List ℕ) → all ≡ front ++ last ∷ [] → any_keyword (all_settled front) ≡ false → (settled last).keyword ≡ Some k →
    and_keyword (all_settled front) k (settled last).thing ≡ positions (all_settled all)
one_at_the_end all front last k e h i = sym (ap positions (seen_last all front last e) ∙ last_by_keyword (all_settled front) (settled last) k h i)

pub none_at_the_end : (all front : List Held) (last : Held) → all ≡ front ++ last ∷ [] → any_keyword (all_settled all) ≡ true → any_keyword (all_settled front) ≡ false → (settled last).keyword ≡ None →
    more_keywords ≡ positions (all_settled all)
none_at_the_end all front last e h i j =
    let both : true ≡ false = sym h ∙ ap any_keyword (seen_last all front last e) ∙ any_last (all_settled front) (settled last) j ∙ i in cc
