use Rattle.std.proofs.Common.{refl}
use Rattle.std.specs.Fmt.{digits}
use Rattle.audit_words.proofs.arguments.argument_text.Goals as goal

pub returns-in-District : goal.returns-in-District
unfolding digits
returns-in-District c = rw c.in-District.is refl

pub returns-in-Size : goal.returns-in-Size
unfolding digits
returns-in-Size c = rw c.in-Size.is refl

pub returns-in-Slack : goal.returns-in-Slack
unfolding digits
returns-in-Slack c = rw c.in-Slack.is refl

pub returns-in-Walks : goal.returns-in-Walks
unfolding digits
returns-in-Walks c = rw c.in-Walks.is refl

pub returns-in-Steps : goal.returns-in-Steps
unfolding digits
returns-in-Steps c = rw c.in-Steps.is refl

pub returns-in-Ends : goal.returns-in-Ends
unfolding digits
returns-in-Ends c = rw c.in-Ends.is refl

pub returns-in-HubSteps : goal.returns-in-HubSteps
unfolding digits
returns-in-HubSteps c = rw c.in-HubSteps.is refl

pub returns-in-Workers : goal.returns-in-Workers
unfolding digits
returns-in-Workers c = rw c.in-Workers.is refl

pub returns-in-Budget : goal.returns-in-Budget
unfolding digits
returns-in-Budget c = rw c.in-Budget.is refl

pub returns-in-Save : goal.returns-in-Save
unfolding digits
returns-in-Save c = rw c.in-Save.is refl

pub returns-in-MaxCut : goal.returns-in-MaxCut
unfolding digits
returns-in-MaxCut c = rw c.in-MaxCut.is refl

pub returns-in-Stop : goal.returns-in-Stop
unfolding digits
returns-in-Stop c = rw c.in-Stop.is refl

pub returns-in-MaxSplit : goal.returns-in-MaxSplit
unfolding digits
returns-in-MaxSplit c = rw c.in-MaxSplit.is refl

pub returns-in-Parts : goal.returns-in-Parts
unfolding digits
returns-in-Parts c = rw c.in-Parts.is refl

pub returns-in-Part : goal.returns-in-Part
unfolding digits
returns-in-Part c = rw c.in-Part.is refl

pub returns-in-MaxSplits : goal.returns-in-MaxSplits
unfolding digits
returns-in-MaxSplits c = rw c.in-MaxSplits.is refl

pub returns-in-MaxSplitRegions : goal.returns-in-MaxSplitRegions
unfolding digits
returns-in-MaxSplitRegions c = rw c.in-MaxSplitRegions.is refl

pub returns-in-GroupDistricts : goal.returns-in-GroupDistricts
unfolding digits
returns-in-GroupDistricts c = rw c.in-GroupDistricts.is refl

pub returns-in-Thin : goal.returns-in-Thin
unfolding digits
returns-in-Thin c = rw c.in-Thin.is refl

pub returns-in-GroupShare : goal.returns-in-GroupShare
unfolding digits
returns-in-GroupShare c = rw c.in-GroupShare.is refl

pub returns-in-MaxLength : goal.returns-in-MaxLength
unfolding digits
returns-in-MaxLength c = rw c.in-MaxLength.is refl

pub returns-in-Resume : goal.returns-in-Resume
returns-in-Resume c = rw c.in-Resume.is refl

pub returns-in-Shift : goal.returns-in-Shift
returns-in-Shift c = rw c.in-Shift.is refl

pub returns-in-Serial : goal.returns-in-Serial
returns-in-Serial c = rw c.in-Serial.is refl

pub returns-in-GroupOf : goal.returns-in-GroupOf
returns-in-GroupOf c = rw c.in-GroupOf.is refl

pub returns-in-Source : goal.returns-in-Source
returns-in-Source c = rw c.in-Source.is refl

pub returns-in-Pairs : goal.returns-in-Pairs
returns-in-Pairs c = rw c.in-Pairs.is refl

pub returns-in-CutWeight : goal.returns-in-CutWeight
unfolding digits
returns-in-CutWeight c = rw c.in-CutWeight.is refl

pub returns-in-Blind : goal.returns-in-Blind
returns-in-Blind c = rw c.in-Blind.is refl
