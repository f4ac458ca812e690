-- Which files and causes the refusals of steps name.
use Rattle.std.proofs.Common.{◌≡◌, ℕ, ◌+◌, ◌<◌, List, [], ◌∷◌, length, Some, Result, Ok, Err, refl, arith, IfSome}
use Rattle.std.specs.List.{enumerate_from}
use Rattle.fisca_params.specs.declared.fault.NodeFault.{NodeFault}
use Rattle.fisca_params.specs.declared.fault.NodeFault.TheVariants as node
use Rattle.fisca_scales.specs.declared.fault.ParamFault.{ParamFault}
use Rattle.fisca_scales.specs.declared.fault.ParamFault.TheVariants as params
use Rattle.fisca_params.specs.Answers.{cause_of, fault_in, Refuses, file_of}
use Rattle.fisca_params.specs.Causes.{Cause, bad_parameter, duplicate_name, Refused}
use Rattle.fisca_params.specs.Files.{Placed, after_file, with_file, with_files, root_alone}
use Rattle.fisca_params.specs.Steps.Files.{in_path_order, tree_of}
use Rattle.fisca_params.specs.Source.{Source}
use Rattle.fisca_params.specs.Tree.{TreeNode}
use Rattle.fisca_params.proofs.EachFile.{Each, each-ordered}

-- the fault of a step, told of its file
pub refuses-in : (file : ℕ) (e : NodeFault) (o : Result (List TreeNode) Cause) (next : List TreeNode → Result (List TreeNode) Refused) →
    ((cause : Cause) → cause_of e ≡ Some cause → o ≡ Err cause) → Refuses (fault_in file e) (after_file file o next)
refuses-in file (node.BadParameter line) o next h = rw (h (bad_parameter line) refl) refl
refuses-in file (node.DuplicateName line) o next h = rw (h (duplicate_name line) refl) refl
refuses-in file node.Memory o next h = tt

abbrev IsWithin : ℕ → Placed → Type 0
IsWithin n p = p.0 < n

within-places : (n i : ℕ) (files : List Source) → i + length files ≡ n → Each (IsWithin n) (enumerate_from i files)
within-places n i [] e = tt
within-places n i (f ∷ fs) e = (omega (arith, e), within-places n (i + 1) fs (omega (arith, e)))

refused-here : (n place : ℕ) (x : Result (List TreeNode) Cause) (next : List TreeNode → Result (List TreeNode) Refused) (r : Refused) →
    place < n → ((t : List TreeNode) → next t ≡ Err r → r.file < n) → after_file place x next ≡ Err r → r.file < n
refused-here n place (Ok t) next r h later e = later t e
refused-here n place (Err c) next r h later e = let same : place ≡ r.file = cc in rw (← same) h

refused-within : (n : ℕ) (t : List TreeNode) (ps : List Placed) (r : Refused) → Each (IsWithin n) ps → with_files t ps ≡ Err r → r.file < n
refused-within n t [] r hs e = cc
refused-within n t (p ∷ ps) r hs e =
    refused-here n p.0 (with_file t p.1) (λ u. with_files u ps) r hs.0 (λ u. refused-within n u ps r hs.1) e

place-within : (files : List Source) (r : Refused) → tree_of files ≡ Err r → r.file < length files
place-within files r e =
    refused-within (length files) root_alone (in_path_order files) r (each-ordered (IsWithin (length files)) [] (enumerate_from 0 files) tt (within-places (length files) 0 files (omega arith))) e

-- a file that is refused is one of those handed in
pub file-within : (files : List Source) (fault : ParamFault) → Refuses fault (tree_of files) → IfSome (file_of fault) (λ file. file < length files)
file-within files (params.Yaml file f) h = place-within files (record { file = file; cause = _ }) h.1
file-within files (params.BadParameter file line) h = place-within files (record { file = file; cause = _ }) h
file-within files (params.DuplicateName file line) h = place-within files (record { file = file; cause = _ }) h
file-within files params.BadScale h = tt
file-within files params.Undefined h = tt
file-within files (params.Number f) h = tt
file-within files params.Memory h = tt
