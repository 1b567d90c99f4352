use Rattle.std.proofs.Common.{◌++◌, Err}
use Rattle.std.proofs.lemmas.Result.{err_from_is_err_and}
use Rattle.report.proofs.Written.{appends-err, appends-two}
use Rattle.audit_model.specs.Meets.{majorities}
use Rattle.audit_statement.specs.Report.{cut_line, frozen_line, group_line, length_lines, share_line, split_line, splits_line}
use Rattle.report.proofs.rules.push_rule_lines.Goals as goal

pub returns-in_err-push_cut_line : goal.returns-in_err-push_cut_line
returns-in_err-push_cut_line c =
    let job = c.args.job.now in
    let out = c.args.out.now in
    let t1 = cut_line job in
    let t2 = t1 ++ split_line job.setting.max_split job.regions in
    let t3 = t2 ++ splits_line job.setting.max_splits job.setting.max_split_regions job.regions in
    let t4 = t3 ++ group_line job.setting.group_districts (majorities job.setting.group_share job.group job.start) job.group.members in
    let t5 = t4 ++ share_line job.setting.group_share job.group.members in
    let t6 = t5 ++ frozen_line job.frozen in
    let e = c.in_err-push_cut_line.field-0.0 in
    let p = err_from_is_err_and c.from_residual.result c.from_residual.ensures.1 in
    let f1 = c.in_err-push_cut_line.ensures in
    let f2 = appends-err out c.push_cut_line.new.out t1 (split_line job.setting.max_split job.regions) e f1 in
    let f3 = appends-err out c.push_cut_line.new.out t2 (splits_line job.setting.max_splits job.setting.max_split_regions job.regions) e f2 in
    let f4 = appends-err out c.push_cut_line.new.out t3 (group_line job.setting.group_districts (majorities job.setting.group_share job.group job.start) job.group.members) e f3 in
    let f5 = appends-err out c.push_cut_line.new.out t4 (share_line job.setting.group_share job.group.members) e f4 in
    let f6 = appends-err out c.push_cut_line.new.out t5 (frozen_line job.frozen) e f5 in
    rw (p.1, p.2) (appends-err out c.push_cut_line.new.out t6 (length_lines job) e f6)

pub returns-in_err-push_split_line : goal.returns-in_err-push_split_line
returns-in_err-push_split_line c =
    let job = c.args.job.now in
    let out = c.args.out.now in
    let t1 = cut_line job in
    let t2 = t1 ++ split_line job.setting.max_split job.regions in
    let t3 = t2 ++ splits_line job.setting.max_splits job.setting.max_split_regions job.regions in
    let t4 = t3 ++ group_line job.setting.group_districts (majorities job.setting.group_share job.group job.start) job.group.members in
    let t5 = t4 ++ share_line job.setting.group_share job.group.members in
    let t6 = t5 ++ frozen_line job.frozen in
    let e = c.in_err-push_split_line.field-0.0 in
    let p = err_from_is_err_and c.from_residual-in_err-push_split_line.result c.from_residual-in_err-push_split_line.ensures.1 in
    let d1 = c.in_ok-push_cut_line.ensures in
    let f2 = appends-two out c.push_cut_line.new.out c.push_split_line.new.out t1 (split_line job.setting.max_split job.regions) (Err e) d1 c.in_err-push_split_line.ensures in
    let f3 = appends-err out c.push_split_line.new.out t2 (splits_line job.setting.max_splits job.setting.max_split_regions job.regions) e f2 in
    let f4 = appends-err out c.push_split_line.new.out t3 (group_line job.setting.group_districts (majorities job.setting.group_share job.group job.start) job.group.members) e f3 in
    let f5 = appends-err out c.push_split_line.new.out t4 (share_line job.setting.group_share job.group.members) e f4 in
    let f6 = appends-err out c.push_split_line.new.out t5 (frozen_line job.frozen) e f5 in
    rw (p.1, p.2) (appends-err out c.push_split_line.new.out t6 (length_lines job) e f6)

pub returns-in_err-push_splits_line : goal.returns-in_err-push_splits_line
returns-in_err-push_splits_line c =
    let job = c.args.job.now in
    let out = c.args.out.now in
    let t1 = cut_line job in
    let t2 = t1 ++ split_line job.setting.max_split job.regions in
    let t3 = t2 ++ splits_line job.setting.max_splits job.setting.max_split_regions job.regions in
    let t4 = t3 ++ group_line job.setting.group_districts (majorities job.setting.group_share job.group job.start) job.group.members in
    let t5 = t4 ++ share_line job.setting.group_share job.group.members in
    let t6 = t5 ++ frozen_line job.frozen in
    let e = c.in_err-push_splits_line.field-0.0 in
    let p = err_from_is_err_and c.from_residual-in_err-push_splits_line.result c.from_residual-in_err-push_splits_line.ensures.1 in
    let d1 = c.in_ok-push_cut_line.ensures in
    let d2 = appends-two out c.push_cut_line.new.out c.push_split_line.new.out t1 (split_line job.setting.max_split job.regions) _ d1 c.in_ok-push_split_line.ensures in
    let f3 = appends-two out c.push_split_line.new.out c.push_splits_line.new.out t2 (splits_line job.setting.max_splits job.setting.max_split_regions job.regions) (Err e) d2 c.in_err-push_splits_line.ensures in
    let f4 = appends-err out c.push_splits_line.new.out t3 (group_line job.setting.group_districts (majorities job.setting.group_share job.group job.start) job.group.members) e f3 in
    let f5 = appends-err out c.push_splits_line.new.out t4 (share_line job.setting.group_share job.group.members) e f4 in
    let f6 = appends-err out c.push_splits_line.new.out t5 (frozen_line job.frozen) e f5 in
    rw (p.1, p.2) (appends-err out c.push_splits_line.new.out t6 (length_lines job) e f6)

pub returns-in_err-push_group_line : goal.returns-in_err-push_group_line
returns-in_err-push_group_line c =
    let job = c.args.job.now in
    let out = c.args.out.now in
    let t1 = cut_line job in
    let t2 = t1 ++ split_line job.setting.max_split job.regions in
    let t3 = t2 ++ splits_line job.setting.max_splits job.setting.max_split_regions job.regions in
    let t4 = t3 ++ group_line job.setting.group_districts (majorities job.setting.group_share job.group job.start) job.group.members in
    let t5 = t4 ++ share_line job.setting.group_share job.group.members in
    let t6 = t5 ++ frozen_line job.frozen in
    let e = c.in_err-push_group_line.field-0.0 in
    let p = err_from_is_err_and c.from_residual-in_err-push_group_line.result c.from_residual-in_err-push_group_line.ensures.1 in
    let d1 = c.in_ok-push_cut_line.ensures in
    let d2 = appends-two out c.push_cut_line.new.out c.push_split_line.new.out t1 (split_line job.setting.max_split job.regions) _ d1 c.in_ok-push_split_line.ensures in
    let d3 = appends-two out c.push_split_line.new.out c.push_splits_line.new.out t2 (splits_line job.setting.max_splits job.setting.max_split_regions job.regions) _ d2 c.in_ok-push_splits_line.ensures in
    let f4 = appends-two out c.push_splits_line.new.out c.push_group_line.new.out t3 (group_line job.setting.group_districts (majorities job.setting.group_share job.group job.start) job.group.members) (Err e) d3 c.in_err-push_group_line.ensures in
    let f5 = appends-err out c.push_group_line.new.out t4 (share_line job.setting.group_share job.group.members) e f4 in
    let f6 = appends-err out c.push_group_line.new.out t5 (frozen_line job.frozen) e f5 in
    rw (p.1, p.2) (appends-err out c.push_group_line.new.out t6 (length_lines job) e f6)

pub returns-in_err-push_share_line : goal.returns-in_err-push_share_line
returns-in_err-push_share_line c =
    let job = c.args.job.now in
    let out = c.args.out.now in
    let t1 = cut_line job in
    let t2 = t1 ++ split_line job.setting.max_split job.regions in
    let t3 = t2 ++ splits_line job.setting.max_splits job.setting.max_split_regions job.regions in
    let t4 = t3 ++ group_line job.setting.group_districts (majorities job.setting.group_share job.group job.start) job.group.members in
    let t5 = t4 ++ share_line job.setting.group_share job.group.members in
    let t6 = t5 ++ frozen_line job.frozen in
    let e = c.in_err-push_share_line.field-0.0 in
    let p = err_from_is_err_and c.from_residual-in_err-push_share_line.result c.from_residual-in_err-push_share_line.ensures.1 in
    let d1 = c.in_ok-push_cut_line.ensures in
    let d2 = appends-two out c.push_cut_line.new.out c.push_split_line.new.out t1 (split_line job.setting.max_split job.regions) _ d1 c.in_ok-push_split_line.ensures in
    let d3 = appends-two out c.push_split_line.new.out c.push_splits_line.new.out t2 (splits_line job.setting.max_splits job.setting.max_split_regions job.regions) _ d2 c.in_ok-push_splits_line.ensures in
    let d4 = appends-two out c.push_splits_line.new.out c.push_group_line.new.out t3 (group_line job.setting.group_districts (majorities job.setting.group_share job.group job.start) job.group.members) _ d3 c.in_ok-push_group_line.ensures in
    let f5 = appends-two out c.push_group_line.new.out c.push_share_line.new.out t4 (share_line job.setting.group_share job.group.members) (Err e) d4 c.in_err-push_share_line.ensures in
    let f6 = appends-err out c.push_share_line.new.out t5 (frozen_line job.frozen) e f5 in
    rw (p.1, p.2) (appends-err out c.push_share_line.new.out t6 (length_lines job) e f6)

pub returns-in_err-push_frozen_line : goal.returns-in_err-push_frozen_line
returns-in_err-push_frozen_line c =
    let job = c.args.job.now in
    let out = c.args.out.now in
    let t1 = cut_line job in
    let t2 = t1 ++ split_line job.setting.max_split job.regions in
    let t3 = t2 ++ splits_line job.setting.max_splits job.setting.max_split_regions job.regions in
    let t4 = t3 ++ group_line job.setting.group_districts (majorities job.setting.group_share job.group job.start) job.group.members in
    let t5 = t4 ++ share_line job.setting.group_share job.group.members in
    let t6 = t5 ++ frozen_line job.frozen in
    let e = c.in_err-push_frozen_line.field-0.0 in
    let p = err_from_is_err_and c.from_residual-in_err-push_frozen_line.result c.from_residual-in_err-push_frozen_line.ensures.1 in
    let d1 = c.in_ok-push_cut_line.ensures in
    let d2 = appends-two out c.push_cut_line.new.out c.push_split_line.new.out t1 (split_line job.setting.max_split job.regions) _ d1 c.in_ok-push_split_line.ensures in
    let d3 = appends-two out c.push_split_line.new.out c.push_splits_line.new.out t2 (splits_line job.setting.max_splits job.setting.max_split_regions job.regions) _ d2 c.in_ok-push_splits_line.ensures in
    let d4 = appends-two out c.push_splits_line.new.out c.push_group_line.new.out t3 (group_line job.setting.group_districts (majorities job.setting.group_share job.group job.start) job.group.members) _ d3 c.in_ok-push_group_line.ensures in
    let d5 = appends-two out c.push_group_line.new.out c.push_share_line.new.out t4 (share_line job.setting.group_share job.group.members) _ d4 c.in_ok-push_share_line.ensures in
    let f6 = appends-two out c.push_share_line.new.out c.push_frozen_line.new.out t5 (frozen_line job.frozen) (Err e) d5 c.in_err-push_frozen_line.ensures in
    rw (p.1, p.2) (appends-err out c.push_frozen_line.new.out t6 (length_lines job) e f6)

pub returns : goal.returns
returns c =
    let job = c.args.job.now in
    let out = c.args.out.now in
    let t1 = cut_line job in
    let t2 = t1 ++ split_line job.setting.max_split job.regions in
    let t3 = t2 ++ splits_line job.setting.max_splits job.setting.max_split_regions job.regions in
    let t4 = t3 ++ group_line job.setting.group_districts (majorities job.setting.group_share job.group job.start) job.group.members in
    let t5 = t4 ++ share_line job.setting.group_share job.group.members in
    let t6 = t5 ++ frozen_line job.frozen in
    let d1 = c.in_ok-push_cut_line.ensures in
    let d2 = appends-two out c.push_cut_line.new.out c.push_split_line.new.out t1 (split_line job.setting.max_split job.regions) _ d1 c.in_ok-push_split_line.ensures in
    let d3 = appends-two out c.push_split_line.new.out c.push_splits_line.new.out t2 (splits_line job.setting.max_splits job.setting.max_split_regions job.regions) _ d2 c.in_ok-push_splits_line.ensures in
    let d4 = appends-two out c.push_splits_line.new.out c.push_group_line.new.out t3 (group_line job.setting.group_districts (majorities job.setting.group_share job.group job.start) job.group.members) _ d3 c.in_ok-push_group_line.ensures in
    let d5 = appends-two out c.push_group_line.new.out c.push_share_line.new.out t4 (share_line job.setting.group_share job.group.members) _ d4 c.in_ok-push_share_line.ensures in
    let d6 = appends-two out c.push_share_line.new.out c.push_frozen_line.new.out t5 (frozen_line job.frozen) _ d5 c.in_ok-push_frozen_line.ensures in
    appends-two out c.push_frozen_line.new.out c.push_length_lines.new.out t6 (length_lines job) _ d6 c.push_length_lines.ensures
