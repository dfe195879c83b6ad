-- Faults: the refusal, the outermost layer and the place there, and the plan's fault inside a sheet's. Assumes nothing.
use Rattle.std.specs.Prelude.{ℕ, List, [], ◌∷◌, ◌++◌, Some, None, Option, decimal}
use Rattle.table.specs.declared.fault.PlanFault.{PlanFault}
use Rattle.table.specs.declared.fault.Fault.{Fault}
use Rattle.table.specs.declared.fault.Fault.TheVariants.{Plan, Assignment, InSheet, RowInSheet}
use Rattle.table.specs.declared.refusal.Layer.{Layer}
use Rattle.table.specs.declared.refusal.Layer.TheVariants as layer
use Rattle.table.specs.declared.refusal.Refusal.{Refusal}
use Rattle.table.specs.declared.refusal.Refusal.TheVariants.{ByteNotAllowed, SheetCut, TooManySegments, BytesAfterEnd, NoTaskFits}
use Rattle.table.specs.Refusals.{layer_letter, refusal_number}

abbrev pub fault_refusal : Fault → Refusal
fault_refusal (Plan f) = f.refusal
fault_refusal (Assignment left) = NoTaskFits
fault_refusal (InSheet r place) = r
fault_refusal (RowInSheet f place) = f.refusal

abbrev pub fault_layer : Fault → Layer
fault_layer (Plan f) = layer.Plan
fault_layer (Assignment left) = layer.Assignment
fault_layer (InSheet r place) = layer.Sheet
fault_layer (RowInSheet f place) = layer.Sheet

abbrev pub fault_place : Fault → ℕ
fault_place (Plan f) = f.place
fault_place (Assignment left) = left
fault_place (InSheet r place) = place
fault_place (RowInSheet f place) = place

abbrev pub fault_inner : Fault → Option PlanFault
fault_inner (Plan f) = None
fault_inner (Assignment left) = None
fault_inner (InSheet r place) = None
fault_inner (RowInSheet f place) = Some f

-- the faults of a sheet at a place
abbrev pub not_allowed_at : ℕ → Fault
not_allowed_at place = InSheet ByteNotAllowed place

abbrev pub cut_at : ℕ → Fault
cut_at place = InSheet SheetCut place

abbrev pub too_many_segments_at : ℕ → Fault
too_many_segments_at place = InSheet TooManySegments place

abbrev pub bytes_after_at : ℕ → Fault
bytes_after_at place = InSheet BytesAfterEnd place

-- a row that a sheet's command at `place` would have put at table place `row`
abbrev pub row_refused_at : Refusal → ℕ → ℕ → Fault
row_refused_at why row place = RowInSheet (record { refusal = why; place = row }) place

-- a layer and the place in it
abbrev pub site_text : Layer → ℕ → List ℕ
site_text layer place = 0x20 ∷ layer_letter layer ∷ 0x20 ∷ decimal place

abbrev pub inner_text : Option PlanFault → List ℕ
inner_text None = []
inner_text (Some f) = site_text layer.Plan f.place

-- the refusal's number, and the layers with their places, the inner one first
abbrev pub fault_text : Fault → List ℕ
fault_text f = decimal (refusal_number (fault_refusal f)) ++ inner_text (fault_inner f) ++ site_text (fault_layer f) (fault_place f)
