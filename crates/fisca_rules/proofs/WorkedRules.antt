-- The faults of formulas beside the sentences of the language.
use Rattle.std.proofs.Common.{◌≡◌, ℕ, List, [], ◌∷◌, ◌++◌, refl}
use Rattle.std.specs.Prelude.{Option, Some, None, Result, Ok, Err, codes}
use Rattle.fisca_attributes.specs.Steps.AttributeForms.{type_named, period_named}
use Rattle.fisca_attributes.specs.Steps.Values.{truth_of}
use Rattle.fisca_ast.specs.Tree.{Tree, name, text, applied, last, next, keyword}
use Rattle.fisca_ast.specs.Steps.Words.{is_keyword}
use Rattle.fisca_ast.specs.declared.tree.Suffix.TheVariants as suffix
use Rattle.fisca_rules.specs.declared.build_fault.BuildFault.{BuildFault}
use Rattle.fisca_rules.specs.Rules.{Rules}
use Rattle.fisca_rules.specs.Steps.Rules.{dated_of, formulas_of, rules_of}
use Rattle.fisca_rules.specs.Steps.Build.{tables_of}
use Rattle.fisca_ast.specs.Modules.{Assigned, Item, attribute, formula, Statement, entity, variable}
use Rattle.fisca_ast.specs.declared.fault.FormulaKind.{FormulaKind}
use Rattle.fisca_ast.specs.declared.fault.FormulaKind.TheVariants as kind
use Rattle.fisca_typing.specs.Names.{known_word, added_word}
use Rattle.fisca_ast.specs.Steps.Contents.{said_within}
use Rattle.fisca_declarations.specs.Steps.VariableForms.{attribute_fits, told_fits}

abbrev fault_in : Result Rules BuildFault → Option BuildFault
fault_in (Ok r) = None
fault_in (Err f) = Some f

abbrev told : List (List Statement) → Option BuildFault
told ms = fault_in (rules_of [] ms)

abbrev at : ℕ → ℕ → FormulaKind → Option BuildFault
at place line k = Some (record { «module» = place; line = line; kind = k })

abbrev quoted : List ℕ → Tree
quoted t = text (34 ∷ t ++ 34 ∷ [])

abbrev person : Statement
person = entity (record {
  line = 1;
  name = codes "Person";
  value = applied suffix.Call (name (codes "build_entity")) (next (keyword (codes "key") (quoted (codes "person"))) (next (keyword (codes "plural") (quoted (codes "persons"))) (last (keyword (codes "is_person") (name (codes "True"))))));
})

abbrev set : ℕ → List ℕ → List ℕ → Item
set line n value = attribute (record { line = line; name = n; value = name value })

abbrev local : ℕ → List ℕ → Tree → Assigned
local line n e = record { line = line; name = n; value = e }

-- a number of persons for each month, which begins on this line, with a formula of these locals that returns this
abbrev computed : ℕ → List ℕ → List Assigned → Tree → Statement
computed line n locals e = variable line n (
    set line (codes "value_type") (codes "float")
    ∷ set line (codes "entity") (codes "Person")
    ∷ set line (codes "definition_period") (codes "MONTH")
    ∷ formula (record {
      line = line;
      start = record { year = 1; month = 1; day = 1 };
      signature = record { entity = codes "person"; period = codes "period"; parameters = None };
      locals = locals;
      returned = record { line = 90; value = e };
    })
    ∷ [])

abbrev one : Tree
one = name (codes "True")

abbrev nope : Tree
nope = name (codes "nope")

-- a formula without a fault
none : told ((person ∷ computed 3 (codes "v") (local 7 (codes "a") one ∷ []) (name (codes "a")) ∷ []) ∷ []) ≡ None
unfolding rules_of tables_of dated_of formulas_of said_within truth_of type_named period_named attribute_fits told_fits is_keyword known_word added_word
none = refl

-- a fault of a local is told of its line, in its module
of_a_local : told ((person ∷ []) ∷ (computed 3 (codes "v") (local 7 (codes "a") one ∷ local 8 (codes "b") nope ∷ []) one ∷ []) ∷ []) ≡ at 1 8 kind.UnknownName
unfolding rules_of tables_of dated_of formulas_of said_within truth_of type_named period_named attribute_fits told_fits is_keyword known_word added_word
of_a_local = refl

-- a fault of what is returned is told of the line of `return`
of_the_return : told ((person ∷ computed 3 (codes "v") (local 7 (codes "a") one ∷ []) nope ∷ []) ∷ []) ≡ at 0 90 kind.UnknownName
unfolding rules_of tables_of dated_of formulas_of said_within truth_of type_named period_named attribute_fits told_fits is_keyword known_word added_word
of_the_return = refl

-- names and attributes go before formulas, wherever they stand
names_first : told ((person ∷ computed 3 (codes "v") [] nope ∷ computed 20 (codes "v") [] one ∷ []) ∷ []) ≡ at 0 20 kind.DuplicateName
unfolding rules_of tables_of dated_of formulas_of said_within truth_of type_named period_named attribute_fits told_fits is_keyword known_word added_word
names_first = refl

attributes_first : told ((person ∷ computed 3 (codes "v") [] nope ∷ variable 20 (codes "w") [] ∷ []) ∷ []) ≡ at 0 20 kind.BadAttribute
unfolding rules_of tables_of dated_of formulas_of said_within truth_of type_named period_named attribute_fits told_fits is_keyword known_word added_word
attributes_first = refl
