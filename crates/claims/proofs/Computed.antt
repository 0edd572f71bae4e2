-- One name for all the definitions that a computed claim opens: `unfolding computed` unfolds them. Assumes nothing.
use Rattle.limits.specs.First.{or_else, first_from, all_fine}
use Rattle.limits.specs.Limits.{number_outside, room_fault}
use Rattle.map.specs.Map.{tail, head, cost, ends_fault, link_fault, counts_fault, map_fault}
use Rattle.map.specs.Walk.{other, near, far}
use Rattle.half.specs.Fold.{up_to, tally}
use Rattle.half.specs.Half.{dist, link, state, put, blank, open_half, nearer, nearest_open, offered, relaxed, settled_at, settled_count}
use Rattle.shape.specs.Bench.{words, parse, opened}
use Rattle.shape.specs.Rules.{within, known, beyond, done, found, mark, list_from, marks_of, turned, turn_told}
use Rattle.shaped.specs.Shape as shape
use Rattle.shaped.specs.Lent.{lent_fault}
use Rattle.trail.specs.Sound as sound
use Rattle.trail.specs.Trail.{after, trail_from}
use Rattle.route.specs.Area.{tested, agrees_at, agrees, every, local_in, mask_at, mask_in, route_in}
use Rattle.area.specs.Finished.{done_fault, unknown_fault, rule_fault, trails_fault, finished_fault, area_fault, asked_fault, route_fault}
use Rattle.bench.specs.Calls.{judged, order_fault, open_fault, open_said, open_words, turn_fault, turn_said, turn_words}
use Rattle.bench.specs.Areas.{area_said, area_mask}
use Rattle.bench.specs.Routes.{route_said, route_part}
use Rattle.nearest.specs.After.{settled_if, half_after}
use Rattle.demands.specs.Mixture.{run, turns_in, settled_dist, optimum_of, bench_at, is_in_reach, turns_of}
use Rattle.demands.specs.Calls.{turns_words}
use Rattle.claims.specs.Five.{five_after, crossings_from, area_shown, route_shown, shown, row_shows, row_says, each, rows}

unfoldable pub computed : Unit {0}
unfolding or_else first_from all_fine number_outside room_fault tail head cost ends_fault link_fault counts_fault map_fault other near far up_to tally
    dist link state put blank open_half nearer nearest_open offered relaxed settled_at settled_count words parse opened
    within known beyond done found mark list_from marks_of turned turn_told
    shape.unlike shape.unseen_fault shape.seen_fault shape.entry_fault shape.half_fault shape.marks_fault shape.size_fault
    shape.ends_fault shape.optimum_fault shape.head_fault shape.shape_fault
    sound.root_fault sound.tight_fault sound.named_fault sound.sound_at sound.sound_fault sound.mark_fault sound.marks_fault
    after trail_from tested agrees_at agrees every local_in mask_at mask_in route_in
    done_fault unknown_fault rule_fault trails_fault finished_fault lent_fault area_fault asked_fault route_fault
    judged order_fault open_fault open_said open_words turn_fault turn_said turn_words area_said area_mask route_said route_part
    settled_if half_after run turns_in settled_dist optimum_of bench_at is_in_reach turns_of
    turns_words five_after crossings_from area_shown route_shown shown row_shows row_says each rows
computed = tt
