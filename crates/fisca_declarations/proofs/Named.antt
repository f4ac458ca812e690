-- Places of names, seen through what formulas name.
use Rattle.std.proofs.Common.{◌≡◌, ℕ, List, map}
use Rattle.std.specs.Str.{bytes_eq}
use Rattle.fisca_symbols.proofs.Places.{place_seen}
use Rattle.fisca_symbols.specs.declared.choices.Choices.{Choices}
use Rattle.fisca_symbols.specs.KnownEnums.{choices}
use Rattle.fisca_model.specs.Tables.{place_in}

pub enum_seen : (t : List ℕ) (es : List Choices) → place_in (λ c. bytes_eq c.name t) (map choices es) ≡ place_in (λ e. bytes_eq e.name t) es
enum_seen t es = place_seen choices (λ c. bytes_eq c.name t) 0 es

pub member_seen : (t : List ℕ) (ms : List (List ℕ × List ℕ)) → place_in (λ m. bytes_eq m t) (map (λ m. m.0) ms) ≡ place_in (λ m. bytes_eq m.0 t) ms
member_seen t ms = place_seen (λ m. m.0) (λ m. bytes_eq m t) 0 ms
