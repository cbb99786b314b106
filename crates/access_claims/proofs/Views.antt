-- Views are made from sound layouts that nest, and from no others, and they are sound.
-- Assumes nothing.
use Rattle.layout.specs.declared.Layout.{Layout}
use Rattle.protection.specs.Protection.{area_end}
use Rattle.pairing.specs.Pairs.{paired}
use Rattle.making.specs.Views.{plain_of, protected_of, made_by, plain_view, protected_view}
use Rattle.access_claims.specs.Views.{MakesViews}
use Rattle.header_claims.proofs.Reflects.{is_true, is_false, reflects_and}
use Rattle.header_claims.proofs.SoundLaws.{sound_reflects}
use Rattle.access_claims.proofs.NestLaws.{nests_reflects, plain_sound_lem, protecting_sound, range_whole}

pub makes_views : (outer hidden_layout : Layout) → MakesViews outer hidden_layout
unfolding plain_view protected_view plain_of protected_of made_by paired area_end
makes_views outer hidden_layout =
    record {
      plain_made = λ s. simp (is_true (sound_reflects outer) s);
      plain_unsound = λ f. simp (is_false (sound_reflects outer) f);
      guarded_made = λ s t n. simp (is_true (sound_reflects outer) s, is_true (sound_reflects hidden_layout) t, is_true (nests_reflects outer hidden_layout) n);
      guarded_unsound = λ f. simp (is_false (reflects_and (sound_reflects outer) (sound_reflects hidden_layout)) f);
      guarded_apart = λ s t f. simp (is_true (sound_reflects outer) s, is_true (sound_reflects hidden_layout) t, is_false (nests_reflects outer hidden_layout) f);
      plain_sound = plain_sound_lem outer;
      guarded_sound = λ locked s t n. protecting_sound outer hidden_layout locked (record { outer_sound = s; hidden_sound = t; nested = n });
      guarded_whole = λ t n. range_whole outer hidden_layout t n;
    }
