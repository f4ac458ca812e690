use Rattle.std.proofs.Common.{◌≡◌, ◌≢◌, Err, rules, subst}
use Rattle.fisca_parser.specs.Reading.{module_of}
use Rattle.fisca_ast.specs.declared.fault.FormulaKind.TheVariants.{Memory}
use Rattle.fisca_rule_files.specs.Modules.{IsFaultOf}
use Rattle.fisca_rule_files.proofs.Telling.{file_told}
use Rattle.fisca_rule_files.proofs.modules.read_file.Goals as goal

pub returns-in-Err-2 : goal.returns-in-Err-2
returns-in-Err-2 c =
    let known : c.in-Err.fault.kind ≢ Memory = search rules in
    let of_text = subst (λ text. module_of text ≡ Err c.in-Err.fault) c.text.ensures (c.in-Err.ensures.told known) in
    file_told c.args.file.now c.in-Err.fault c.refuse.result of_text (subst (λ path. IsFaultOf (path, c.in-Err.fault) c.refuse.result) c.path.ensures c.refuse.ensures)
