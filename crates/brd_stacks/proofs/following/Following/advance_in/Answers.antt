use Rattle.std.proofs.Common.{◌≡◌, ◌<◌, ◌++◌, [], List, take, true, sym, ap, ◌∙◌, subst, arith}
use Rattle.std.specs.List.{cons_option}
use Rattle.brd_board.specs.Board.{happens}
use Rattle.brd_journal.specs.Still.{does_no_more}
use Rattle.brd_journal.proofs.PlayingLemmas.{first-board}
use Rattle.brd_stacks.specs.declared.stack.Point.{Point}
use Rattle.brd_stacks.specs.Depths.{AreFollowed, IsSoonest}
use Rattle.brd_stacks.specs.Points.{points_in, points_from}
use Rattle.brd_stacks.proofs.FollowingLemmas.{points-on, points-told}
use Rattle.brd_stacks.proofs.following.Following.advance_in.Goals as goal

pub returns-clause-followed : goal.returns-clause-followed
returns-clause-followed c = λ boot events stacks within comes is.
    let board = c.args.self.now.playback.board in
    let position = c.args.self.now.playback.at in
    let event = c.args.rest.event in
    let moved = c.advance-moved.result in
    let next = c.advance-moved.new.self in
    let goes = c.advance-moved.ensures.goes in
    let over : 1 < moved.count → does_no_more event (happens board event).report ≡ true =
    λ more. ap (does_no_more event) (sym c.advance-moved.ensures.report) ∙ c.advance-moved.ensures.over (omega (arith, more, goes.2)) in
    let leaves : next.board ≡ (happens board event).board = first-board board next.board event moved.count goes.0 over c.advance-moved.ensures.board in
    let points : cons_option c.point_of.result [] ≡ points_in position board event =
    points-told board event position c.in-Ok.before moved.report next.board c.in_ok-told.told c.point_of.result c.in-Ok.ensures
    c.advance-moved.ensures.report leaves c.in_ok-told.ensures.is c.point_of.ensures in
    let path : points_from 0 boot (take next.at events) ≡ points_from 0 boot (take position events) ++ cons_option c.point_of.result [] =
    ap (λ n. points_from 0 boot (take n events)) goes.2
    ∙ points-on boot board events position moved.count c.args.rest is.played.board is.played.within comes goes.0 goes.1 over
    ∙ ap (λ (ps : List Point). points_from 0 boot (take position events) ++ ps) (sym points) in
    record {
      played = c.advance-moved.ensures.played boot events within comes is.played;
      tracks = subst (λ (ps : List Point). AreFollowed stacks ps c.follow_if.new.tracks.items) (sym path)
          (c.follow_if.ensures.followed stacks (points_from 0 boot (take position events)) is.tracks);
      soonest = subst (λ (ps : List Point). IsSoonest stacks ps) (sym path)
          (c.follow_if.ensures.soonest stacks (points_from 0 boot (take position events)) is.tracks c.requires.calm is.soonest);
    }
