-- Collections in brackets, on one line.
use Rattle.std.specs.Prelude.{ℕ, zero, suc, List, [], ◌∷◌, length, Bool, true, false, not, ◌==◌, ◌||◌, ◌&&◌, if◌then◌else◌, Option, Some, None, option_map, option_and_then}
use Rattle.fisca_yaml_scalars.specs.Characters.{comma, colon, open_bracket, close_bracket, open_brace, close_brace}
use Rattle.fisca_yaml.specs.Node.{Node, null, scalar, list, map, keys, repeats, Items, no_items, item, Entries, no_entries, entry}
use Rattle.fisca_yaml_scalars.specs.Steps.Rows.{begins, tail}
use Rattle.fisca_yaml_scalars.specs.Scalars.{Read, quoted, word, past_word}
use Rattle.fisca_yaml_scalars.specs.Steps.Scalars.{is_quote, past_blanks, trim_end, may_begin, is_key, is_nil, ends_key}
use Rattle.fisca_yaml.specs.Steps.Leaves.{leaf}

-- what is read, and the text after it
abbrev pub Parse : Type 0 → Type 0
Parse A = List ℕ → Option (A × List ℕ)

abbrev pub parse_map : {A B : Type 0} → (A → B) → Option (A × List ℕ) → Option (B × List ℕ)
parse_map f r = option_map (λ p. (f p.0, p.1)) r

-- a plain scalar, which has a character
abbrev pub plain_flow : List ℕ → Read
plain_flow bs = if may_begin bs && not (is_nil (word false bs)) then Some (trim_end (word false bs), past_word false bs) else None

abbrev pub flow_scalar : ℕ → Parse Node
flow_scalar number bs = if is_quote bs then parse_map (λ t. scalar t true number) (quoted bs) else parse_map (leaf number) (plain_flow bs)

-- what follows a value: past the comma, or at the closing bracket
abbrev pub separated : ℕ → List ℕ → Option (List ℕ)
separated close [] = None
separated close (b ∷ bs) = if b == comma then Some (past_blanks false bs) else (if b == close then Some (b ∷ bs) else None)

abbrev pub after_value : ℕ → List ℕ → Option (List ℕ)
after_value close bs = separated close (past_blanks false bs)

abbrev pub then_more : {A B : Type 0} → (A → B → B) → Parse B → A → Option (List ℕ) → Option (B × List ℕ)
then_more add more a None = None
then_more add more a (Some bs) = parse_map (add a) (more bs)

abbrev pub series_step : {A B : Type 0} → ℕ → B → (A → B → B) → Parse A → Parse B → Parse B
series_step close none add element more bs =
    if begins close bs then Some (none, tail bs) else option_and_then (λ p. then_more add more p.0 (after_value close p.1)) (element bs)

-- Elements up to a closing bracket. The number bounds the turns. The length of the text is always enough.
unfoldable pub series : {A B : Type 0} → ℕ → B → (A → B → B) → Parse A → ℕ → Parse B
series close none add element zero bs = None
series close none add element (suc n) bs = series_step close none add element (series close none add element n) bs

abbrev pub flow_items : Parse Node → ℕ → Parse Items
flow_items value number bs = series close_bracket no_items (item number) value (length bs) bs

-- a key, and what follows its colon and the blanks; a plain key's colon needs a blank or an end after it
abbrev pub colon_then : Bool → List ℕ → List ℕ → Read
colon_then loose k [] = None
colon_then loose k (b ∷ bs) = if (b == colon) && ((loose || ends_key bs) && is_key k) then Some (k, past_blanks false bs) else None

abbrev pub keyed_by : Bool → Read → Read
keyed_by loose None = None
keyed_by loose (Some p) = colon_then loose p.0 (past_blanks false p.1)

abbrev pub flow_key : List ℕ → Read
flow_key bs = if is_quote bs then keyed_by true (quoted bs) else keyed_by false (plain_flow bs)

-- the value of an entry, or null where a comma or the bracket follows
abbrev pub value_or_null : Parse Node → Parse Node
value_or_null value bs = if begins comma bs || begins close_brace bs then Some (null, bs) else value bs

abbrev pub beside_key : List ℕ → Option (Node × List ℕ) → Option ((List ℕ × Node) × List ℕ)
beside_key k None = None
beside_key k (Some p) = Some ((k, p.0), p.1)

abbrev pub entry_then : Parse Node → Read → Option ((List ℕ × Node) × List ℕ)
entry_then value None = None
entry_then value (Some k) = beside_key k.0 (value_or_null value k.1)

abbrev pub flow_entry : Parse Node → Parse (List ℕ × Node)
flow_entry value bs = entry_then value (flow_key bs)

abbrev pub add_pair : ℕ → List ℕ × Node → Entries → Entries
add_pair number p es = entry p.0 number p.1 es

abbrev pub flow_entries : Parse Node → ℕ → Parse Entries
flow_entries value number bs = series close_brace no_entries (add_pair number) (flow_entry value) (length bs) bs

-- a map has no key twice
abbrev pub map_apart : Option (Entries × List ℕ) → Option (Node × List ℕ)
map_apart None = None
map_apart (Some p) = if repeats (keys p.0) then None else Some (map p.0, p.1)

abbrev pub flow_with : Parse Items → Parse Entries → ℕ → Parse Node
flow_with items entries number bs =
    if begins open_bracket bs then parse_map list (items (past_blanks false (tail bs)))
    else (if begins open_brace bs then map_apart (entries (past_blanks false (tail bs))) else flow_scalar number bs)

-- one value, with lists and maps nested no deeper than the first number
unfoldable pub flow_value : ℕ → ℕ → Parse Node
flow_value zero number bs = flow_with (λ cs. None) (λ cs. None) number bs
flow_value (suc d) number bs = flow_with (flow_items (flow_value d number) number) (flow_entries (flow_value d number) number) number bs
