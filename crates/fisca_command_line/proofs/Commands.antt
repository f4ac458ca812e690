-- Which commands the words can name where they ask for no help.
use Rattle.std.proofs.Common.{◌≡◌, ◌≢◌, ◌⊎◌, ◌||◌, ℕ, Bool, true, false, cond, inl, inr, List, [], ◌∷◌, Option, Some, None, fold, option_map, is_some, refl, sym, ap, ◌∙◌, codes, subst}
use Rattle.std.proofs.lemmas.Bool.{true≢false}
use Rattle.std.proofs.lemmas.Slice.Eq.{bytes_eq-Decides}
use Rattle.std.specs.Str.{bytes_eq}
use Rattle.std.specs.List.{slice_index_or}
use Rattle.clap.specs.Lexer.{long_of, short_of}
use Rattle.clap.specs.Walk.{Row, Text, Rule, Held, Names, Outcome, Step, Waiting, Walk, next, trailing, subcommand, value, idle, option, positional, done, waits, plain, refused, after_flag, after_step, arg_by_index, arg_by_long, bundle, long_met, long_or_other, nothing_held, plain_word, short_or_plain, subcommand_met, subcommand_or_other, to_positional, walk_from, walked, walked_from, word_met, stop_after}
use Rattle.clap.specs.Simple.{App, Shape, argument_words, built, entered, names_of, rows_at, subcommand_of, subcommand_rows, HasMatchesOf}
use Rattle.clap.specs.Kinds.{Kinds, or_else}
use Rattle.std.specs.Prelude.{Box}
use Rattle.std.specs.Box.{box_value}
use Rattle.clap.specs.Matches.{subcommand_name_of}
use Rattle.clap.specs.declared.parser.matches.ArgMatches.{ArgMatches}
use Rattle.clap.specs.declared.parser.matches.ArgMatches.TheViews.{out-ArgMatches, out-SubCommand}
use Rattle.clap.specs.declared.parser.matches.SubCommand.{SubCommand}
use Rattle.fisca_command_line.proofs.Parses.{no_fault}
use Rattle.clap.specs.Faults.{fault_of, is_simple_and_free, other_fault, turn_fault, walk_fault, word_fault}
use Rattle.clap.specs.declared.error.kind.ErrorKind.TheVariants as kind
use Rattle.fisca_command_line.specs.CommandLine.{fisca_app}

first_none : (one other : Kinds) → or_else one other ≡ [] → one ≡ []
first_none [] other h = refl
first_none (kind ∷ kinds) other h = h

second_none : (one other : Kinds) → or_else one other ≡ [] → other ≡ []
second_none [] other h = h
second_none (kind ∷ kinds) other h = cc

-- the walk was not stopped by the command `help`
abbrev IsNoHelp : Option (Text × List Text) → Type 0
IsNoHelp None = Unit {0}
IsNoHelp (Some stop) = bytes_eq stop.0 (codes "help") ≡ false

-- a step that meets no command
abbrev IsOther : Step → Type 0
IsOther (next waiting) = Unit {0}
IsOther (trailing position) = Unit {0}
IsOther (subcommand name) = ⊥
IsOther value = Unit {0}

other_plain : (c : List Rule) (waiting : Waiting) (word : Text) (h : Held) → IsOther (plain_word c waiting word h).1
other_plain c idle word h = tt
other_plain c (option id) word h = tt
other_plain c positional word h = tt

other_flag : (c : List Rule) (waiting : Waiting) (word : Text) (h : Held) (outcome : Outcome) → IsOther (after_flag c waiting word h outcome).1
other_flag c waiting word h done = tt
other_flag c waiting word h (waits id) = tt
other_flag c waiting word h plain = other_plain c waiting word h
other_flag c waiting word h refused = other_plain c waiting word h

other_short : (c : List Rule) (waiting : Waiting) (word : Text) (flags : Option Text) (h : Held) → IsOther (short_or_plain c waiting word flags h).1
other_short c waiting word None h = other_plain c waiting word h
other_short c waiting word (Some flags) h = other_flag c waiting word (bundle c flags h).0 (bundle c flags h).1

other_long : (c : List Rule) (waiting : Waiting) (word : Text) (flag : Option (Text × Option Text)) (h : Held) → IsOther (long_or_other c waiting word flag h).1
other_long c waiting word None h = other_short c waiting word (short_of word) h
other_long c waiting word (Some flag) h = other_flag c waiting word (long_met c (arg_by_long c flag.0) flag.1 h).0 (long_met c (arg_by_long c flag.0) flag.1 h).1

to_place : (c : List Rule) (taker : Option Rule) (word : Text) (w : Walk) (h : Held) → IsNoHelp w.stopped → IsNoHelp (to_positional c taker word w h).stopped
to_place c None word w h goes = goes
to_place c (Some taker) word w h goes = tt

goes_on : (c : List Rule) (word : Text) (w : Walk) (h : Held) (step : Step) → IsOther step → IsNoHelp w.stopped → IsNoHelp (after_step c word w h step).stopped
goes_on c word w h (next waiting) other goes = goes
goes_on c word w h (trailing position) other goes = goes
goes_on c word w h (subcommand name) other goes = absurd other
goes_on c word w h value other goes = to_place c (arg_by_index c w.position) word w h goes

-- `help` is a fault
no_help : (s : Shape) (name word : Text) (h : Held) → s.disable_help_subcommand ≡ false → other_fault s (Some name) word h ≡ [] → bytes_eq name (codes "help") ≡ false
no_help s name word h enabled none = go (bytes_eq name (codes "help")) refl
  where
    go : (b : Bool) → bytes_eq name (codes "help") ≡ b → b ≡ false
    go false is = refl
    go true is = let here : other_fault s (Some name) word h ≡ kind.DisplayHelp ∷ kind.InvalidSubcommand ∷ [] = rw (is, enabled) refl in cc

met_no_help : (s : Shape) (w : Walk) (word : Text) (met : Option Text) → s.disable_help_subcommand ≡ false → IsNoHelp w.stopped → other_fault s met word w.held ≡ []
    → IsNoHelp (after_step s.rules word w (subcommand_or_other s.rules met w.waiting w.position word w.held).0 (subcommand_or_other s.rules met w.waiting w.position word w.held).1).stopped
met_no_help s w word (Some name) enabled goes none = no_help s name word w.held enabled none
met_no_help s w word None enabled goes none = go (bytes_eq word (45 ∷ 45 ∷ []))
  where
    go : (dashes : Bool) → let met = cond dashes (w.held, trailing w.position) (long_or_other s.rules w.waiting word (long_of word) w.held) in IsNoHelp (after_step s.rules word w met.0 met.1).stopped
    go true = goes
    go false = let met = long_or_other s.rules w.waiting word (long_of word) w.held in goes_on s.rules word w met.0 met.1 (other_long s.rules w.waiting word (long_of word) w.held) goes

turn_no_help : (s : Shape) (names : Names) (w : Walk) (word : Text) → s.disable_help_subcommand ≡ false → IsNoHelp w.stopped → turn_fault s names w word ≡ [] → IsNoHelp (walked s.rules names w word).stopped
unfolding walked
turn_no_help s names w word enabled goes none = go _ w.stopped goes none
  where
    read : (trails : Bool) → word_fault s names trails w.waiting word w.held ≡ []
        → let met = word_met s.rules names trails w.waiting w.position word w.held in IsNoHelp (after_step s.rules word w met.0 met.1).stopped
    read true none = to_place s.rules (arg_by_index s.rules w.position) word w w.held goes
    read false none = met_no_help s w word (subcommand_met names w.waiting word) enabled goes none

    go : (later : Kinds) (stopped : Option (Text × List Text)) → IsNoHelp stopped → cond (is_some stopped) [] (or_else (word_fault s names w.is_trailing w.waiting word w.held) later) ≡ [] → IsNoHelp (walked_from s.rules names stopped w word).stopped
    go later (Some stop) is none = is
    go later None is none = read w.is_trailing (first_none (word_fault s names w.is_trailing w.waiting word w.held) later none)

walk_no_help : (s : Shape) (names : Names) → s.disable_help_subcommand ≡ false → (words : List Text) (w : Walk) → IsNoHelp w.stopped → walk_fault s names w words ≡ []
    → IsNoHelp (fold (walked s.rules names) w words).stopped
unfolding walk_fault
walk_no_help s names enabled [] w goes none = goes
walk_no_help s names enabled (word ∷ words) w goes none =
    let turn = turn_fault s names w word in
    let rest = walk_fault s names (walked s.rules names w word) words in
    walk_no_help s names enabled words (walked s.rules names w word) (turn_no_help s names w word enabled goes (first_none turn rest none)) (second_none turn rest none)

-- a command of the program, but for its `help`
abbrev IsNamed : Option Text → Type 0
IsNamed None = Unit {0}
IsNamed (Some name) = (name ≡ codes "check") ⊎ ((name ≡ codes "calc") ⊎ ((name ≡ codes "test") ⊎ ((name ≡ codes "run") ⊎ ((name ≡ codes "size") ⊎ ((name ≡ codes "list") ⊎ ((name ≡ codes "explain") ⊎ (name ≡ codes "axes")))))))

swapped : (one other : Text) → bytes_eq one other ≡ false → bytes_eq other one ≡ false
swapped one other differ = go (bytes_eq other one) refl
  where
    go : (b : Bool) → bytes_eq other one ≡ b → b ≡ false
    go false is = refl
    go true is =
        let same : other ≡ one = (bytes_eq-Decides other one).0 is in
        let back : bytes_eq one other ≡ true = (bytes_eq-Decides one other).1 (sym same) in
        absurd (true≢false (sym back ∙ differ))

-- the commands as built: `check`, `calc`, `test`, `run`, `size`, `list`, `explain`, `axes` and `help`
abbrev sub : ℕ → Shape
sub place = slice_index_or (built fisca_app).subs place (built fisca_app).top

entered_named : (stop : Option (Text × List Text)) → IsNoHelp stop → IsNamed (option_map (λ command. command.0) (entered (built fisca_app) stop))
entered_named None other = tt
entered_named (Some stop) other = go (bytes_eq (codes "check") stop.0) (bytes_eq (codes "calc") stop.0) (bytes_eq (codes "test") stop.0) (bytes_eq (codes "run") stop.0) (bytes_eq (codes "size") stop.0) (bytes_eq (codes "list") stop.0) (bytes_eq (codes "explain") stop.0) (bytes_eq (codes "axes") stop.0) (bytes_eq (codes "help") stop.0) (swapped stop.0 (codes "help") other)
  where
    go : (check calc test run size list explain axes help : Bool) → help ≡ false
        → IsNamed (option_map (λ command. command.0) (option_map (λ s. rows_at s stop.1) (cond (check || false) (Some (sub 0)) (cond (calc || false) (Some (sub 1)) (cond (test || false) (Some (sub 2)) (cond (run || false) (Some (sub 3)) (cond (size || false) (Some (sub 4)) (cond (list || false) (Some (sub 5)) (cond (explain || false) (Some (sub 6)) (cond (axes || false) (Some (sub 7)) (cond (help || false) (Some (sub 8)) None)))))))))))
    go true calc test run size list explain axes help none = inl refl
    go false true test run size list explain axes help none = inr (inl refl)
    go false false true run size list explain axes help none = inr (inr (inl refl))
    go false false false true size list explain axes help none = inr (inr (inr (inl refl)))
    go false false false false true list explain axes help none = inr (inr (inr (inr (inl refl))))
    go false false false false false true explain axes help none = inr (inr (inr (inr (inr (inl refl)))))
    go false false false false false false true axes help none = inr (inr (inr (inr (inr (inr (inl refl))))))
    go false false false false false false false true help none = inr (inr (inr (inr (inr (inr (inr refl))))))
    go false false false false false false false false true none = absurd (true≢false none)
    go false false false false false false false false false none = tt

-- words without a fault name `check`, `calc`, `test`, `run`, `size`, `list`, `explain` or `axes`
named : (words : List Text) → fault_of fisca_app words ≡ [] → IsNamed (option_map (λ command. command.0) (subcommand_of fisca_app words))
named words none =
    let app = built fisca_app in
    entered_named (stop_after app.top.rules (names_of app) (argument_words fisca_app words))
    (walk_no_help app.top (names_of app) refl (argument_words fisca_app words) (walk_from nothing_held) tt (first_none _ _ none))

module _ {Z : Type 0} where
  same_name : (o : Option (Box SubCommand Z)) → option_map (λ command. command.0) (subcommand_rows o) ≡ option_map (λ b. (out-SubCommand (box_value b)).name.now) o
  same_name None = refl
  same_name (Some b) = refl

pub no_other : (app : App) (words : List Text) (m : ArgMatches) (name : Text) → app ≡ fisca_app → (is_simple_and_free app ≡ true → fault_of app words ≡ []) → HasMatchesOf app words m
    → Some name ≡ subcommand_name_of m → name ≢ codes "check" → name ≢ codes "calc" → name ≢ codes "test" → name ≢ codes "run" → name ≢ codes "size" → name ≢ codes "list" → name ≢ codes "explain" → name ≢ codes "axes" → ⊥
no_other app words m name is none matches met no_check no_calc no_test no_run no_size no_list no_explain no_axes = elim told [
  | inl e ↦ no_check e
  | inr later ↦ elim later [
    | inl e ↦ no_calc e
    | inr rest ↦ elim rest [
      | inl e ↦ no_test e
      | inr last ↦ elim last [
        | inl e ↦ no_run e
        | inr two ↦ elim two [
          | inl e ↦ no_size e
          | inr three ↦ elim three [
            | inl e ↦ no_list e
            | inr four ↦ elim four [
              | inl e ↦ no_explain e
              | inr e ↦ no_axes e
            ]
          ]
        ]
      ]
    ]
  ]
]
  where
    faultless : fault_of fisca_app words ≡ []
    faultless = no_fault app words is none

    found : HasMatchesOf fisca_app words m
    found = subst (λ (a : App). HasMatchesOf a words m) is matches

    told : (name ≡ codes "check") ⊎ ((name ≡ codes "calc") ⊎ ((name ≡ codes "test") ⊎ ((name ≡ codes "run") ⊎ ((name ≡ codes "size") ⊎ ((name ≡ codes "list") ⊎ ((name ≡ codes "explain") ⊎ (name ≡ codes "axes")))))))
    told = subst IsNamed (ap (option_map (λ command. command.0)) (sym (found refl).1) ∙ same_name (out-ArgMatches m).subcommand ∙ sym met) (named words faultless)

both : (o : Option (Text × List Row)) (name : Text) (rows : List Row) → option_map (λ command. command.0) o ≡ Some name → option_map (λ command. command.1) o ≡ Some rows → o ≡ Some (name, rows)
both None name rows one two = absurd (cc)
both (Some (a, b)) name rows one two = let first : a ≡ name = cc in let second : b ≡ rows = cc in rw (first, second) refl

-- the command that the words name, and its matches
pub met : (app : App) (words : List Text) (m : ArgMatches) (name : Text) (rows : List Row) → app ≡ fisca_app → HasMatchesOf app words m → Some name ≡ subcommand_name_of m
    → Some rows ≡ option_map (λ command. command.1) (subcommand_rows (out-ArgMatches m).subcommand) → subcommand_of fisca_app words ≡ Some (name, rows)
met app words m name rows is matches named_so has =
    let found : HasMatchesOf fisca_app words m = subst (λ (a : App). HasMatchesOf a words m) is matches in
    sym (found refl).1 ∙ both (subcommand_rows (out-ArgMatches m).subcommand) name rows (same_name (out-ArgMatches m).subcommand ∙ sym named_so) (sym has)
