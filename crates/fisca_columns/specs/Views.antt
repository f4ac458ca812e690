-- How definitions see a file of `fisca calc`.
use Rattle.fisca_columns.specs.Calc.{Calc}
use Rattle.fisca_columns.specs.declared.calc_file.CalcFile.{CalcFile}
use Rattle.fisca_situations.specs.Steps.Views.{situation}

abbrev pub calc : CalcFile → Calc
calc f = record { situation = situation f.situation; columns = f.columns }
