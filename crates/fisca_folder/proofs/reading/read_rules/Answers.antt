use Rattle.fisca_folder.proofs.FirstFiles.{are_rule_files, if_ok_both}
use Rattle.fisca_folder.proofs.reading.read_rules.Goals as goal

pub returns-clause-files : goal.returns-clause-files
returns-clause-files g c =
    if_ok_both c.read_files.result (λ files paths texts. are_rule_files c.in_ok-paths.paths.items files.items c.in_ok-paths.ensures.order c.in_ok-paths.ensures.few paths texts) c.read_files.ensures.paths c.read_files.ensures.texts
