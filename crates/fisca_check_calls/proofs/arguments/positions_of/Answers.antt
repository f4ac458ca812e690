use Rattle.std.proofs.Common.{◌≡◌, ◌++◌, ◌∷◌, [], true, false, None, Some, rules, sym}
use Rattle.fisca_check_calls.specs.Arguments.{all_settled, any_keyword, key}
use Rattle.fisca_check_calls.proofs.Keywords.{all_by_position, more_in_front, none_at_the_end, one_at_the_end}
use Rattle.fisca_check_calls.proofs.arguments.positions_of.Goals as goal

pub returns-then-not-has_keyword : goal.returns-then-not-has_keyword
returns-then-not-has_keyword c =
    let none : any_keyword (all_settled c.args.arguments.items) ≡ false = search rules in
    sym (all_by_position _ none)

pub returns-then-has_keyword : goal.returns-then-has_keyword
returns-then-has_keyword c =
    let items : c.args.arguments.items ≡ c.pop.new.self.items ++ c.in-Some.last ∷ [] = search rules in
    let front : any_keyword (all_settled c.pop.new.self.items) ≡ true = search rules in
    more_in_front _ _ _ items front

pub returns-in-Some-keyword : goal.returns-in-Some-keyword
returns-in-Some-keyword c =
    let items : c.args.arguments.items ≡ c.pop.new.self.items ++ c.in-Some.last ∷ [] = search rules in
    let front : any_keyword (all_settled c.pop.new.self.items) ≡ false = search rules in
    let named : key c.in-Some.last.keyword ≡ Some c.in-Some-keyword.key.now = search rules in
    one_at_the_end _ _ _ _ items front named

pub returns : goal.returns
returns c =
    let items : c.args.arguments.items ≡ c.pop.new.self.items ++ c.in-Some.last ∷ [] = search rules in
    let whole : any_keyword (all_settled c.args.arguments.items) ≡ true = search rules in
    let front : any_keyword (all_settled c.pop.new.self.items) ≡ false = search rules in
    let unnamed : key c.in-Some.last.keyword ≡ None = search rules in
    none_at_the_end _ _ _ items whole front unnamed
