-- By case. These proofs are here for speed.
use Rattle.std.proofs.Common.{refl}
use Rattle.macsec_script_printer.proofs.outcomes.refusal_name.Goals as goal

pub returns-in-KeyLength : goal.returns-in-KeyLength
returns-in-KeyLength c = rw c.in-KeyLength.is refl

pub returns-in-Offset : goal.returns-in-Offset
returns-in-Offset c = rw c.in-Offset.is refl

pub returns-in-KeyNumberUsed : goal.returns-in-KeyNumberUsed
returns-in-KeyNumberUsed c = rw c.in-KeyNumberUsed.is refl

pub returns-in-KeyRepeated : goal.returns-in-KeyRepeated
returns-in-KeyRepeated c = rw c.in-KeyRepeated.is refl

pub returns-in-NoKey : goal.returns-in-NoKey
returns-in-NoKey c = rw c.in-NoKey.is refl

pub returns-in-KeyRetired : goal.returns-in-KeyRetired
returns-in-KeyRetired c = rw c.in-KeyRetired.is refl

pub returns-in-KeyInUse : goal.returns-in-KeyInUse
returns-in-KeyInUse c = rw c.in-KeyInUse.is refl

pub returns-in-OwnSci : goal.returns-in-OwnSci
returns-in-OwnSci c = rw c.in-OwnSci.is refl

pub returns-in-ScTaken : goal.returns-in-ScTaken
returns-in-ScTaken c = rw c.in-ScTaken.is refl

pub returns-in-ScFull : goal.returns-in-ScFull
returns-in-ScFull c = rw c.in-ScFull.is refl

pub returns-in-NoSc : goal.returns-in-NoSc
returns-in-NoSc c = rw c.in-NoSc.is refl

pub returns-in-AnTaken : goal.returns-in-AnTaken
returns-in-AnTaken c = rw c.in-AnTaken.is refl

pub returns-in-NoSa : goal.returns-in-NoSa
returns-in-NoSa c = rw c.in-NoSa.is refl

pub returns-in-PnRange : goal.returns-in-PnRange
returns-in-PnRange c = rw c.in-PnRange.is refl

pub returns-in-PnLower : goal.returns-in-PnLower
returns-in-PnLower c = rw c.in-PnLower.is refl

pub returns-in-PnFloor : goal.returns-in-PnFloor
returns-in-PnFloor c = rw c.in-PnFloor.is refl

pub returns-in-SsciOwn : goal.returns-in-SsciOwn
returns-in-SsciOwn c = rw c.in-SsciOwn.is refl

pub returns-in-Window : goal.returns-in-Window
returns-in-Window c = rw c.in-Window.is refl

pub returns-in-SciForm : goal.returns-in-SciForm
returns-in-SciForm c = rw c.in-SciForm.is refl

pub returns-in-Exhausted : goal.returns-in-Exhausted
returns-in-Exhausted c = rw c.in-Exhausted.is refl
