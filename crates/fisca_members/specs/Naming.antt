-- The two names of an entity.
use Rattle.std.specs.Prelude.{ℕ, List}
use Rattle.fisca_model.specs.Tables.{Entity}
use Rattle.fisca_members.specs.declared.titles.Naming.{Naming}
use Rattle.fisca_members.specs.declared.titles.Naming.TheVariants.{Plural, Key}

-- that of all its members, or of one of them
abbrev pub name_by : Naming → Entity → List ℕ
name_by Plural = λ e. e.plural
name_by Key = λ e. e.key
