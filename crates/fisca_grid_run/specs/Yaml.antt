-- What a text is refused for that is no YAML.
use Rattle.std.specs.Prelude.{◌≡◌, ◌≢◌, ◌⊎◌, ◌↔◌, ℕ, ◌<◌, ◌≤◌, ◌^◌, List, length, None}
use Rattle.std.specs.Str.Lines.{lines}
use Rattle.fisca_rule_files.specs.declared.refusal.Refusal.{Refusal}
use Rattle.fisca_rule_files.specs.declared.refusal.Refusal.TheVariants.{Yaml, Memory}
use Rattle.fisca_yaml.specs.Grouping.{document}
use Rattle.fisca_yaml.specs.declared.fault.YamlKind.TheVariants as yaml
use Rattle.fisca_yaml.specs.declared.fault.YamlFault.{YamlFault}

-- a fault of a text that has no tree: it is too long, which is told at line 1, or the fault stands at one of its lines
pub record IsYamlFault (text : List ℕ) (fault : YamlFault) : Type 0 where
  pub known : fault.kind ≢ yaml.Memory
  pub none : document text ≡ None
  pub long : (fault.kind ≡ yaml.TooLong) ↔ (2 ^ 20 < length text)
  pub first : fault.kind ≡ yaml.TooLong → fault.line ≡ 1
  pub there : fault.kind ≢ yaml.TooLong → (1 ≤ fault.line) × (fault.line ≤ length (lines text))

-- the text is refused for such a fault, or memory was refused
abbrev pub IsYamlRefused : List ℕ → Refusal → Type 0
IsYamlRefused text refusal = (refusal ≡ Memory) ⊎ ((fault : YamlFault) × (refusal ≡ Yaml fault) × IsYamlFault text fault)
