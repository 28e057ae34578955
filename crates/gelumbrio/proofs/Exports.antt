-- Runs of the exports, of which the claims speak: arguments, result, parameters at exit, and what the export's own
-- contract promises of these. Assumes nothing.
use Rattle.sheet.proofs.Demand3.{Ran, part_look, number_look, Together, CallRun, set_up_run, take_run, give_back_run}
use Rattle.sheet.proofs.Demand3.{edit_run, import_run}
use Rattle.sheet.proofs.Demand3.{read_part_run}
use Rattle.gelumbrio.proofs.gelumbrio_set_up.Kinds as set_up_kinds
use Rattle.gelumbrio.proofs.gelumbrio_set_up.Reads as set_up_reads
use Rattle.gelumbrio.proofs.gelumbrio_take.Kinds as take_kinds
use Rattle.gelumbrio.proofs.gelumbrio_take.Reads as take_reads
use Rattle.gelumbrio.proofs.gelumbrio_give_back.Kinds as give_back_kinds
use Rattle.gelumbrio.proofs.gelumbrio_give_back.Reads as give_back_reads
use Rattle.gelumbrio.proofs.gelumbrio_edit.Kinds as edit_kinds
use Rattle.gelumbrio.proofs.gelumbrio_edit.Reads as edit_reads
use Rattle.gelumbrio.proofs.gelumbrio_import.Kinds as import_kinds
use Rattle.gelumbrio.proofs.gelumbrio_import.Reads as import_reads
use Rattle.gelumbrio.proofs.gelumbrio_read.Kinds as read_kinds
use Rattle.gelumbrio.proofs.gelumbrio_read.Reads as read_reads
use Rattle.gelumbrio.proofs.gelumbrio_read_number.Kinds as number_kinds
use Rattle.gelumbrio.proofs.gelumbrio_read_number.Reads as number_reads

abbrev pub SetUpExport : Type 0
SetUpExport = Ran 4 set_up_kinds.ps set_up_kinds.r set_up_reads.Learnt

abbrev pub TakeExport : Type 0
TakeExport = Ran 1 take_kinds.ps take_kinds.r take_reads.Learnt

abbrev pub GiveBackExport : Type 0
GiveBackExport = Ran 1 give_back_kinds.ps give_back_kinds.r give_back_reads.Learnt

abbrev pub EditExport : Type 0
EditExport = Ran 2 edit_kinds.ps edit_kinds.r edit_reads.Learnt

abbrev pub ImportExport : Type 0
ImportExport = Ran 2 import_kinds.ps import_kinds.r import_reads.Learnt

abbrev pub PartExport : Type 0
PartExport = Ran 1 read_kinds.ps read_kinds.r read_reads.Learnt

abbrev pub NumberExport : Type 0
NumberExport = Ran 1 number_kinds.ps number_kinds.r number_reads.Learnt

-- a read and its companion
pub record ReadExport : Type 0 where
  pub part : PartExport
  pub number : NumberExport
  pub together : Together (part_look part) (number_look number)

pub data Export : Type 0 where
  set_up_export : SetUpExport → Export
  take_export : TakeExport → Export
  give_back_export : GiveBackExport → Export
  edit_export : EditExport → Export
  import_export : ImportExport → Export
  read_export : ReadExport → Export

-- an export's run is one of the call that it hands on: the two contracts are the same statement
abbrev pub handed : Export → CallRun
handed (set_up_export u) = set_up_run u
handed (take_export u) = take_run u
handed (give_back_export u) = give_back_run u
handed (edit_export u) = edit_run u
handed (import_export u) = import_run u
handed (read_export u) = read_part_run (record { part = u.part; number = u.number; together = u.together })
