-- The keys that are being worked out, the one that was asked for first at the head.
use Rattle.std.specs.Prelude.{◌≡◌, List, [], ◌∷◌, ◌++◌, None, false, ◌<◌, length}
use Rattle.fisca_model.specs.Values.{Key}
use Rattle.fisca_key_semantics.specs.Answers.{Sources, first_again, most_keys}
use Rattle.fisca_key_semantics.specs.Chains.{IsPath}
use Rattle.fisca_key_semantics.specs.Keys.{has}

-- the keys of the stack differ, and each asks for the next, the last one for this key
pub record IsStack (src : Sources) (stack : List Key) (key : Key) : Type 0 where
  pub path : IsPath src (stack ++ key ∷ [])
  pub distinct : first_again stack ≡ None

-- the key is not on the stack, which has room for it
pub record IsFresh (stack : List Key) (key : Key) : Type 0 where
  pub room : length stack < most_keys
  pub absent : has stack key ≡ false

-- the keys of the stack differ, each asks for the next, and the last is the key
pub record IsWorking (src : Sources) (stack : List Key) (key : Key) : Type 0 where
  pub below : List Key
  pub ends_so : stack ≡ below ++ key ∷ []
  pub path : IsPath src stack
  pub distinct : first_again stack ≡ None
