use Rattle.std.proofs.Common.{lit<, None}
use Rattle.std.proofs.lemmas.Str.Pattern.{split_once_first}
use Rattle.audit_words.proofs.Ranges.{last_alone}
use Rattle.audit_words.proofs.values.range_of.Goals as goal

pub returns-in-None-clause-last : goal.returns-in-None-clause-last
returns-in-None-clause-last c = last_alone c.args.text.now (split_once_first 45 c.args.text.now None c.in-None.ensures.cases (lit< tt))
