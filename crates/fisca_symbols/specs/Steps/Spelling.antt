-- How texts are compared.
use Rattle.std.specs.Prelude.{ℕ, List}
use Rattle.fisca_symbols.specs.declared.text.Spelling.{Spelling}
use Rattle.fisca_symbols.specs.declared.text.Spelling.TheVariants as spelling
use Rattle.fisca_model.specs.Tables.{capitals}

abbrev pub spelled : Spelling → List ℕ → List ℕ
spelled spelling.Written t = t
spelled spelling.Capitals t = capitals t
