use Rattle.fisca_rule_files.proofs.ListedLines.{all_listed, ends}
use Rattle.fisca_rule_files.proofs.law.each_variable_has_its_line.Goals as goal

pub returns-clause-lines : goal.returns-clause-lines
returns-clause-lines c = all_listed

pub returns-clause-end : goal.returns-clause-end
returns-clause-end c = ends
