use Rattle.std.proofs.Common.{subst}
use Rattle.audit_words.specs.Judged.{AreReadable}
use Rattle.audit_words.specs.ArgumentBytes.{pairs_in}
use Rattle.audit_words.proofs.settings.setting_for.Goals as goal

pub made_setting-requires : goal.made_setting-requires
made_setting-requires c =
    let readable = subst (λ m. AreReadable m (pairs_in c.args.words.now)) c.in-Make.is c.requires in
    record { run = readable.0; size = readable.1 }
