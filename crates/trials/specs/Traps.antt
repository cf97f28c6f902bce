-- A ring for each of 01's traps, for Card 11 and some more, with its whole answer: the values that come back, the bits of every node and the
-- cells. proofs/Traps proves that every row holds; a divider that falls into the trap answers otherwise. The answers are those that the Rust gave (oracle/).
use Rattle.std.specs.Prelude.{List, [], ◌∷◌, pos, negsuc}
use Rattle.trials.specs.Trials.{units, sized, fresh, cell, Trial, gives}

-- of equal worst corners, the last
unfoldable pub equal_worst : Trial
equal_worst =
    gives
    (fresh
    (units (pos 24576) (pos 32768) ∷ units (pos 8192) (pos 40960) ∷ units (pos 16384) (pos 32768) ∷ units (pos 32768) (pos 24576) ∷ [])
    [])
    (0 ∷ 4 ∷ 0 ∷ 1 ∷ 2 ∷ 0 ∷ 134217728 ∷ 0 ∷ 11 ∷ 6 ∷ [])
    (0x4008_0000_0000_0000 ∷ 0x4010_0000_0000_0000 ∷ 0x3ff0_0000_0000_0000 ∷ 0x4014_0000_0000_0000 ∷ 0x4000_0000_0000_0000 ∷ 0x4010_0000_0000_0000 ∷
    0x4000_0000_0000_0000 ∷ 0x4012_0000_0000_0000 ∷ 0x3ff8_0000_0000_0000 ∷ 0x4012_0000_0000_0000 ∷ 0x4004_0000_0000_0000 ∷ 0x4010_0000_0000_0000 ∷
    0x4000_0000_0000_0000 ∷ 0x4011_5555_5555_5555 ∷ 0x4010_0000_0000_0000 ∷ 0x4008_0000_0000_0000 ∷ 0x4008_0000_0000_0000 ∷ 0x400c_0000_0000_0000 ∷
    0x400c_0000_0000_0000 ∷ 0x400c_0000_0000_0000 ∷ 0x4008_0000_0000_0000 ∷ 0x400d_5555_5555_5555 ∷ [])
    (cell 6 3 1 4 ∷ cell 6 4 2 5 ∷ cell 6 5 0 3 ∷ cell 10 8 7 9 ∷ cell 10 9 0 5 ∷ cell 10 5 2 8 ∷ [])

-- the centre is the mean of the corners, not the area's
unfoldable pub trapezoid : Trial
trapezoid =
    gives
    (fresh
    (units (pos 0) (pos 0) ∷ units (pos 65536) (pos 0) ∷ units (pos 32768) (pos 32768) ∷ units (pos 0) (pos 32768) ∷ [])
    [])
    (0 ∷ 4 ∷ 0 ∷ 0 ∷ 1 ∷ 0 ∷ 3221225472 ∷ 0 ∷ 9 ∷ 4 ∷ [])
    (0 ∷ 0 ∷ 0x4020_0000_0000_0000 ∷ 0 ∷ 0x4010_0000_0000_0000 ∷ 0x4010_0000_0000_0000 ∷ 0 ∷ 0x4010_0000_0000_0000 ∷ 0x4010_0000_0000_0000 ∷ 0 ∷
    0x4018_0000_0000_0000 ∷ 0x4000_0000_0000_0000 ∷ 0x4000_0000_0000_0000 ∷ 0x4010_0000_0000_0000 ∷ 0 ∷ 0x4000_0000_0000_0000 ∷
    0x4008_0000_0000_0000 ∷ 0x4000_0000_0000_0000 ∷ [])
    (cell 8 4 1 5 ∷ cell 8 5 2 6 ∷ cell 8 6 3 7 ∷ cell 8 7 0 4 ∷ [])

-- one far snap leaves the other edges their snap points
unfoldable pub far_snap : Trial
far_snap =
    gives
    (fresh
    (units (pos 0) (pos 0) ∷ units (pos 65536) (pos 0) ∷ units (pos 65536) (pos 65536) ∷ units (pos 0) (pos 65536) ∷ [])
    (units (pos 0) (pos 0) ∷ units (pos 32768) (negsuc 4095) ∷ units (pos 65536) (pos 0) ∷ units (pos 57055) (pos 1117) ∷
    units (pos 49152) (pos 4390) ∷ units (pos 42366) (pos 9598) ∷ units (pos 37158) (pos 16384) ∷ units (pos 33885) (pos 24287) ∷
    units (pos 32768) (pos 32768) ∷ units (pos 33885) (pos 41249) ∷ units (pos 37158) (pos 49152) ∷ units (pos 42366) (pos 55938) ∷
    units (pos 49152) (pos 61146) ∷ units (pos 57055) (pos 64419) ∷ units (pos 65536) (pos 65536) ∷ []))
    (0 ∷ 4 ∷ 2 ∷ 0 ∷ 1 ∷ 0 ∷ 8589934592 ∷ 0 ∷ 9 ∷ 4 ∷ [])
    (0 ∷ 0 ∷ 0x4020_0000_0000_0000 ∷ 0 ∷ 0x4020_0000_0000_0000 ∷ 0x4020_0000_0000_0000 ∷ 0 ∷ 0x4020_0000_0000_0000 ∷
    0x4010_0000_0000_0000 ∷ 0xbfe0_0000_0000_0000 ∷ 0x4020_0000_0000_0000 ∷ 0x4010_0000_0000_0000 ∷ 0x4010_0000_0000_0000 ∷ 0x4020_0000_0000_0000 ∷
    0 ∷ 0x4010_0000_0000_0000 ∷ 0x4010_0000_0000_0000 ∷ 0x4010_0000_0000_0000 ∷ [])
    (cell 8 4 1 5 ∷ cell 8 5 2 6 ∷ cell 8 6 3 7 ∷ cell 8 7 0 4 ∷ [])

-- a part that is turned round has its marks turned with it
unfoldable pub turned_marks : Trial
turned_marks =
    gives
    (fresh
    (units (pos 49152) (pos 0) ∷ units (pos 24576) (pos 49152) ∷ units (pos 24576) (pos 0) ∷ units (pos 49152) (pos 0) ∷ units (pos 49152) (pos 0) ∷
    units (pos 24576) (pos 49152) ∷ units (pos 49152) (pos 24576) ∷ units (pos 49152) (pos 0) ∷ units (pos 24576) (pos 0) ∷
    units (pos 24576) (pos 0) ∷ [])
    (units (pos 24576) (pos 0) ∷ units (pos 36864) (pos 1228) ∷ units (pos 49152) (pos 0) ∷ []))
    (0 ∷ 8 ∷ 3 ∷ 1 ∷ 2 ∷ 1811939328 ∷ 603979776 ∷ 0 ∷ 11 ∷ 10 ∷ [])
    (0x4008_0000_0000_0000 ∷ 0 ∷ 0x4018_0000_0000_0000 ∷ 0 ∷ 0x4008_0000_0000_0000 ∷ 0x4018_0000_0000_0000 ∷
    0x4012_0000_0000_0000 ∷ 0x3fc3_3000_0000_0000 ∷ 0x4012_0000_0000_0000 ∷ 0x4008_0000_0000_0000 ∷ 0x4008_0000_0000_0000 ∷ 0x4008_0000_0000_0000 ∷
    0x4010_0000_0000_0000 ∷ 0x4000_0000_0000_0000 ∷ 0x4018_0000_0000_0000 ∷ 0x4008_0000_0000_0000 ∷ 0x4018_0000_0000_0000 ∷ 0x3ff8_0000_0000_0000 ∷
    0x4012_0000_0000_0000 ∷ 0x4012_0000_0000_0000 ∷ 0x4012_0000_0000_0000 ∷ 0x4002_0000_0000_0000 ∷ [])
    (cell 6 3 1 4 ∷ cell 6 4 2 5 ∷ cell 6 5 0 3 ∷ cell 6 3 1 4 ∷ cell 6 4 2 5 ∷ cell 6 5 0 3 ∷ cell 10 3 1 8 ∷ cell 10 8 7 9 ∷ cell 10 9 2 5 ∷
    cell 10 5 0 3 ∷ [])

-- collinear points are dropped together, not one by one
unfoldable pub collinear : Trial
collinear =
    gives
    (sized 2048
    (units (pos 0) (pos 0) ∷ units (pos 8192) (negsuc 2) ∷ units (pos 16384) (negsuc 3) ∷ units (pos 24576) (negsuc 2) ∷ units (pos 32768) (pos 0) ∷
    units (pos 32768) (pos 32768) ∷ units (pos 0) (pos 32768) ∷ [])
    [])
    (0 ∷ 4 ∷ 0 ∷ 0 ∷ 1 ∷ 0 ∷ 2147483648 ∷ 0 ∷ 9 ∷ 4 ∷ [])
    (0 ∷ 0 ∷ 0x4010_0000_0000_0000 ∷ 0 ∷ 0x4010_0000_0000_0000 ∷ 0x4010_0000_0000_0000 ∷ 0 ∷ 0x4010_0000_0000_0000 ∷ 0x4000_0000_0000_0000 ∷ 0 ∷
    0x4010_0000_0000_0000 ∷ 0x4000_0000_0000_0000 ∷ 0x4000_0000_0000_0000 ∷ 0x4010_0000_0000_0000 ∷ 0 ∷ 0x4000_0000_0000_0000 ∷
    0x4000_0000_0000_0000 ∷ 0x4000_0000_0000_0000 ∷ [])
    (cell 8 4 1 5 ∷ cell 8 5 2 6 ∷ cell 8 6 3 7 ∷ cell 8 7 0 4 ∷ [])

-- the part pushed last is popped first
unfoldable pub pop_order : Trial
pop_order =
    gives
    (fresh
    (units (pos 57344) (pos 0) ∷ units (negsuc 8191) (pos 163840) ∷ units (negsuc 65535) (negsuc 40959) ∷ units (pos 90112) (negsuc 139263) ∷ [])
    [])
    (0 ∷ 4 ∷ 0 ∷ 1 ∷ 2 ∷ 0 ∷ 41271951360 ∷ 0 ∷ 11 ∷ 6 ∷ [])
    (0xc020_0000_0000_0000 ∷ 0xc014_0000_0000_0000 ∷ 0x4026_0000_0000_0000 ∷ 0xc031_0000_0000_0000 ∷ 0x401c_0000_0000_0000 ∷ 0 ∷
    0x3ff8_0000_0000_0000 ∷ 0xc026_0000_0000_0000 ∷ 0x4022_0000_0000_0000 ∷ 0xc021_0000_0000_0000 ∷ 0xbfe0_0000_0000_0000 ∷ 0xc004_0000_0000_0000 ∷
    0x400a_aaaa_aaaa_aaab ∷ 0xc01d_5555_5555_5555 ∷ 0xbff0_0000_0000_0000 ∷ 0x4034_0000_0000_0000 ∷ 0x4008_0000_0000_0000 ∷ 0x4024_0000_0000_0000 ∷
    0xc012_0000_0000_0000 ∷ 0x401e_0000_0000_0000 ∷ 0xbfe5_5555_5555_5555 ∷ 0x4014_0000_0000_0000 ∷ [])
    (cell 6 3 1 4 ∷ cell 6 4 2 5 ∷ cell 6 5 0 3 ∷ cell 10 8 7 9 ∷ cell 10 9 0 5 ∷ cell 10 5 2 8 ∷ [])

-- a retry is on straight middles
unfoldable pub retried : Trial
retried =
    gives
    (fresh
    (units (pos 65536) (pos 24576) ∷ units (pos 57344) (pos 24576) ∷ units (pos 24576) (pos 65536) ∷ units (pos 16384) (pos 8192) ∷ [])
    (units (pos 16384) (pos 8192) ∷ units (pos 32768) (pos 16384) ∷ units (pos 65536) (pos 24576) ∷ []))
    (0 ∷ 4 ∷ 1 ∷ 1 ∷ 2 ∷ 0 ∷ 2348810240 ∷ 0 ∷ 12 ∷ 6 ∷ [])
    (0x4000_0000_0000_0000 ∷ 0x3ff0_0000_0000_0000 ∷ 0x4020_0000_0000_0000 ∷ 0x4008_0000_0000_0000 ∷ 0x401c_0000_0000_0000 ∷ 0x4008_0000_0000_0000 ∷
    0x4013_a950_e90b_4054 ∷ 0x4001_d4a8_7485_a02a ∷ 0x401e_0000_0000_0000 ∷ 0x4008_0000_0000_0000 ∷ 0x4012_0000_0000_0000 ∷ 0x4000_0000_0000_0000 ∷
    0x4016_aaaa_aaaa_aaab ∷ 0x4002_aaaa_aaaa_aaab ∷ 0x4014_0000_0000_0000 ∷ 0x4000_0000_0000_0000 ∷ 0x4008_0000_0000_0000 ∷ 0x4020_0000_0000_0000 ∷
    0x4014_0000_0000_0000 ∷ 0x4016_0000_0000_0000 ∷ 0x4004_0000_0000_0000 ∷ 0x4012_0000_0000_0000 ∷ 0x4010_0000_0000_0000 ∷ 0x4010_0000_0000_0000 ∷ [])
    (cell 6 7 1 4 ∷ cell 6 4 2 5 ∷ cell 6 5 0 7 ∷ cell 11 9 8 10 ∷ cell 11 10 0 5 ∷ cell 11 5 2 9 ∷ [])

-- the k of an 8 is that of the retry
unfoldable pub retry_fails : Trial
retry_fails =
    gives
    (fresh
    (units (pos 7) (pos 7) ∷ units (pos 6) (pos 11) ∷ units (pos 8) (pos 0) ∷ units (pos 8) (pos 5) ∷ [])
    (units (pos 6) (pos 11) ∷ units (pos 8) (pos 3) ∷ units (pos 8) (pos 0) ∷ []))
    (8 ∷ 4 ∷ 0 ∷ 0 ∷ 0 ∷ 0 ∷ 0 ∷ 3 ∷ 10 ∷ 0 ∷ [])
    (0x3f4c_0000_0000_0000 ∷ 0x3f4c_0000_0000_0000 ∷ 0x3f48_0000_0000_0000 ∷ 0x3f56_0000_0000_0000 ∷ 0x3f50_0000_0000_0000 ∷ 0 ∷
    0x3f50_0000_0000_0000 ∷ 0x3f44_0000_0000_0000 ∷ 0x3f4a_0000_0000_0000 ∷ 0x3f52_0000_0000_0000 ∷ 0x3f4d_7488_e369_e035 ∷ 0x3f46_2ddc_7258_7f2b ∷
    0x3f50_0000_0000_0000 ∷ 0x3f34_0000_0000_0000 ∷ 0x3f4e_0000_0000_0000 ∷ 0x3f48_0000_0000_0000 ∷ 0x3f4d_0000_0000_0000 ∷ 0x3f47_0000_0000_0000 ∷
    0x3f4c_0000_0000_0000 ∷ 0x3f46_0000_0000_0000 ∷ [])
    []

-- a part is turned round, and its area counts twice
unfoldable pub turned_part : Trial
turned_part =
    gives
    (fresh
    (units (pos 2) (pos 1) ∷ units (pos 4) (pos 2) ∷ units (pos 3) (pos 1) ∷ units (pos 0) (pos 1) ∷ units (pos 3) (pos 1) ∷ units (pos 4) (pos 2) ∷
    units (pos 0) (pos 1) ∷ [])
    [])
    (0 ∷ 7 ∷ 0 ∷ 1 ∷ 2 ∷ 3 ∷ 2 ∷ 0 ∷ 11 ∷ 9 ∷ [])
    (0 ∷ 0x3f20_0000_0000_0000 ∷ 0x3f38_0000_0000_0000 ∷ 0x3f20_0000_0000_0000 ∷ 0x3f40_0000_0000_0000 ∷ 0x3f30_0000_0000_0000 ∷
    0x3f30_0000_0000_0000 ∷ 0x3f20_0000_0000_0000 ∷ 0x3f28_0000_0000_0000 ∷ 0x3f20_0000_0000_0000 ∷ 0x3f3c_0000_0000_0000 ∷ 0x3f28_0000_0000_0000 ∷
    0x3f30_0000_0000_0000 ∷ 0x3f28_0000_0000_0000 ∷ 0x3f20_0000_0000_0000 ∷ 0x3f20_0000_0000_0000 ∷ 0x3f38_0000_0000_0000 ∷ 0x3f28_0000_0000_0000 ∷
    0x3f31_5555_5555_5555 ∷ 0x3f25_5555_5555_5555 ∷ 0x3f32_aaaa_aaaa_aaab ∷ 0x3f25_5555_5555_5555 ∷ [])
    (cell 9 4 1 5 ∷ cell 9 5 2 6 ∷ cell 9 6 0 7 ∷ cell 9 7 3 8 ∷ cell 9 8 2 6 ∷ cell 9 6 0 4 ∷ cell 10 4 1 5 ∷ cell 10 5 2 6 ∷ cell 10 6 0 4 ∷ [])

-- where 01 says doubles, exact arithmetic would answer otherwise
unfoldable pub in_doubles_of : Trial
in_doubles_of =
    gives
    (sized 625
    (units (pos 412) (pos 1097) ∷ units (pos 572) (pos 1521) ∷ units (negsuc 1525) (pos 575) ∷ units (pos 0) (pos 0) ∷ [])
    [])
    (0 ∷ 4 ∷ 0 ∷ 1 ∷ 2 ∷ 0 ∷ 2649114 ∷ 0 ∷ 11 ∷ 6 ∷ [])
    (0xbfc7_d800_0000_0000 ∷ 0x3fb1_f800_0000_0000 ∷ 0 ∷ 0 ∷ 0x3fa9_c000_0000_0000 ∷ 0x3fc1_2400_0000_0000 ∷
    0xbfb7_d800_0000_0000 ∷ 0x3fa1_f800_0000_0000 ∷ 0x3f99_c000_0000_0000 ∷ 0x3fb1_2400_0000_0000 ∷ 0xbfb1_6800_0000_0000 ∷ 0x3fba_2000_0000_0000 ∷
    0xbfa7_3555_5555_5555 ∷ 0x3fb1_6aaa_aaaa_aaab ∷ 0x3fb1_e000_0000_0000 ∷ 0x3fc7_c400_0000_0000 ∷ 0x3fae_c000_0000_0000 ∷ 0x3fc4_7400_0000_0000 ∷
    0xbfad_d000_0000_0000 ∷ 0x3fc0_6000_0000_0000 ∷ 0xbf96_9555_5555_5555 ∷ 0x3fc0_a155_5555_5555 ∷ [])
    (cell 6 3 1 4 ∷ cell 6 4 2 5 ∷ cell 6 5 0 3 ∷ cell 10 8 7 9 ∷ cell 10 9 0 5 ∷ cell 10 5 2 8 ∷ [])

-- and one that doubles and exact arithmetic answer alike, since Card 11 refuses the diagonal whose midpoint they judge differently
unfoldable pub in_doubles_again : Trial
in_doubles_again =
    gives
    (fresh
    (units (negsuc 28) (negsuc 54) ∷ units (pos 10) (pos 3) ∷ units (negsuc 34) (negsuc 11) ∷ units (negsuc 66) (negsuc 14) ∷
    units (negsuc 52) (negsuc 17) ∷ [])
    [])
    (0 ∷ 5 ∷ 0 ∷ 2 ∷ 3 ∷ 0 ∷ 2973 ∷ 0 ∷ 15 ∷ 9 ∷ [])
    (0xbf71_8000_0000_0000 ∷ 0xbf58_0000_0000_0000 ∷ 0xbf80_c000_0000_0000 ∷ 0xbf5e_0000_0000_0000 ∷ 0xbf7a_8000_0000_0000 ∷ 0xbf62_0000_0000_0000 ∷
    0xbf79_8000_0000_0000 ∷ 0xbf5b_0000_0000_0000 ∷ 0xbf7e_0000_0000_0000 ∷ 0xbf60_8000_0000_0000 ∷ 0xbf76_0000_0000_0000 ∷ 0xbf5e_0000_0000_0000 ∷
    0xbf79_d555_5555_5555 ∷ 0xbf5e_0000_0000_0000 ∷ 0xbf6d_0000_0000_0000 ∷ 0xbf7b_8000_0000_0000 ∷ 0x3f54_0000_0000_0000 ∷ 0x3f38_0000_0000_0000 ∷
    0xbf53_0000_0000_0000 ∷ 0xbf6a_0000_0000_0000 ∷ 0xbf59_0000_0000_0000 ∷ 0xbf42_0000_0000_0000 ∷ 0xbf70_0000_0000_0000 ∷ 0xbf70_c000_0000_0000 ∷
    0xbf62_0000_0000_0000 ∷ 0xbf65_5555_5555_5555 ∷ 0xbf74_8000_0000_0000 ∷ 0xbf72_4000_0000_0000 ∷ 0xbf73_8000_0000_0000 ∷ 0xbf6c_5555_5555_5555 ∷ [])
    (cell 6 3 1 4 ∷ cell 6 4 2 5 ∷ cell 6 5 0 3 ∷ cell 12 9 8 10 ∷ cell 12 10 0 11 ∷ cell 12 11 7 9 ∷ cell 14 5 2 13 ∷ cell 14 13 7 11 ∷
    cell 14 11 0 5 ∷ [])

-- and another
unfoldable pub in_doubles_wide : Trial
in_doubles_wide =
    gives
    (fresh
    (units (pos 4940548) (negsuc 7093590) ∷ units (pos 4030231) (pos 4093591) ∷ units (pos 30231) (pos 4093591) ∷
    units (negsuc 3969768) (pos 7093592) ∷ units (negsuc 4940546) (pos 589980) ∷ units (pos 30231) (negsuc 906408) ∷
    units (pos 4440548) (negsuc 6893590) ∷ [])
    [])
    (0 ∷ 7 ∷ 0 ∷ 2 ∷ 3 ∷ 0 ∷ 125192513570778 ∷ 0 ∷ 19 ∷ 11 ∷ [])
    (0x400d_85c0_0000_0000 ∷ 0xc05b_a952_0000_0000 ∷ 0x407e_bf8b_8000_0000 ∷ 0x407f_3b4b_8000_0000 ∷ 0x400d_85c0_0000_0000 ∷ 0x407f_3b4b_8000_0000 ∷
    0x406e_fa97_0000_0000 ∷ 0x4068_50f7_0000_0000 ∷ 0x406e_fa97_0000_0000 ∷ 0x407f_3b4b_8000_0000 ∷ 0x400d_85c0_0000_0000 ∷ 0x4068_50f7_0000_0000 ∷
    0x4064_ce6c_5555_5555 ∷ 0x4072_8416_2aaa_aaab ∷ 0xc07e_4974_8000_0000 ∷ 0x408b_0f56_0000_0000 ∷ 0xc082_d8c0_c000_0000 ∷ 0x4052_0138_0000_0000 ∷
    0xc06e_0e69_0000_0000 ∷ 0x4085_567d_e000_0000 ∷ 0xc080_febd_8000_0000 ∷ 0x407d_4f7d_0000_0000 ∷ 0xc072_bb3b_0000_0000 ∷ 0xc033_5034_0000_0000 ∷
    0xc070_e137_c000_0000 ∷ 0x4074_bbfc_4000_0000 ∷ 0x4080_f079_0000_0000 ∷ 0xc08a_4c05_c000_0000 ∷ 0x4082_d8c1_0000_0000 ∷ 0xc08b_0f55_c000_0000 ∷
    0x4071_0dfe_c000_0000 ∷ 0xc07d_c130_0000_0000 ∷ 0x4081_e49d_0000_0000 ∷ 0xc08a_adad_c000_0000 ∷ 0x4081_1c43_6000_0000 ∷ 0xc066_e360_0000_0000 ∷
    0x4079_a342_c000_0000 ∷ 0xc074_9970_0000_0000 ∷ [])
    (cell 6 3 1 4 ∷ cell 6 4 2 5 ∷ cell 6 5 0 3 ∷ cell 12 9 7 10 ∷ cell 12 10 8 11 ∷ cell 12 11 0 5 ∷ cell 12 5 2 9 ∷ cell 18 15 13 16 ∷
    cell 18 16 14 17 ∷ cell 18 17 1 3 ∷ cell 18 3 0 15 ∷ [])

-- and one with corners on one line, whose answer needs the doubles also where Card 11 refuses the diagonals over a corner
unfoldable pub in_doubles_over : Trial
in_doubles_over =
    gives
    (fresh
    (units (pos 4) (pos 1) ∷ units (pos 20) (pos 38) ∷ units (negsuc 46) (negsuc 15) ∷ units (pos 10) (pos 3) ∷ units (negsuc 34) (negsuc 11) ∷
    units (pos 32) (negsuc 34) ∷ [])
    [])
    (8 ∷ 6 ∷ 0 ∷ 0 ∷ 0 ∷ 0 ∷ 0 ∷ 1 ∷ 13 ∷ 0 ∷ [])
    (0x3f40_0000_0000_0000 ∷ 0x3f20_0000_0000_0000 ∷ 0x3f64_0000_0000_0000 ∷ 0x3f73_0000_0000_0000 ∷ 0xbf77_8000_0000_0000 ∷ 0xbf60_0000_0000_0000 ∷
    0x3f54_0000_0000_0000 ∷ 0x3f38_0000_0000_0000 ∷ 0xbf71_8000_0000_0000 ∷ 0xbf58_0000_0000_0000 ∷ 0x3f70_0000_0000_0000 ∷ 0xbf71_8000_0000_0000 ∷
    0x3f58_0000_0000_0000 ∷ 0x3f63_8000_0000_0000 ∷ 0xbf5b_0000_0000_0000 ∷ 0x3f56_0000_0000_0000 ∷ 0xbf62_8000_0000_0000 ∷ 0xbf4a_0000_0000_0000 ∷
    0xbf59_0000_0000_0000 ∷ 0xbf42_0000_0000_0000 ∷ 0xbf28_0000_0000_0000 ∷ 0xbf67_8000_0000_0000 ∷ 0x3f62_0000_0000_0000 ∷ 0xbf61_0000_0000_0000 ∷
    0xbf35_5555_5555_5555 ∷ 0xbf3c_0000_0000_0000 ∷ [])
    []

-- a diagonal that runs over a third corner is refused, from (2,1) to (2,4) over (2,3): with it the ring would be 8
unfoldable pub third_corner : Trial
third_corner =
    gives
    (fresh
    (units (pos 16384) (pos 8192) ∷ units (pos 32768) (pos 0) ∷ units (pos 16384) (pos 32768) ∷ units (pos 16384) (pos 24576) ∷ units (pos 0) (pos 0) ∷ [])
    [])
    (0 ∷ 5 ∷ 0 ∷ 2 ∷ 3 ∷ 0 ∷ 671088640 ∷ 0 ∷ 15 ∷ 9 ∷ [])
    (0x4000_0000_0000_0000 ∷ 0x4008_0000_0000_0000 ∷ 0 ∷ 0 ∷ 0x4000_0000_0000_0000 ∷ 0x3ff0_0000_0000_0000 ∷ 0x3ff0_0000_0000_0000 ∷ 0x3ff8_0000_0000_0000 ∷
    0x3ff0_0000_0000_0000 ∷ 0x3fe0_0000_0000_0000 ∷ 0x4000_0000_0000_0000 ∷ 0x4000_0000_0000_0000 ∷ 0x3ff5_5555_5555_5555 ∷ 0x3ff5_5555_5555_5555 ∷
    0x4010_0000_0000_0000 ∷ 0 ∷ 0x4000_0000_0000_0000 ∷ 0x4010_0000_0000_0000 ∷ 0x4008_0000_0000_0000 ∷ 0x4000_0000_0000_0000 ∷ 0x4000_0000_0000_0000 ∷
    0x400c_0000_0000_0000 ∷ 0x4008_0000_0000_0000 ∷ 0x3ff8_0000_0000_0000 ∷ 0x4005_5555_5555_5555 ∷ 0x4002_aaaa_aaaa_aaab ∷ 0x4008_0000_0000_0000 ∷
    0x3fe0_0000_0000_0000 ∷ 0x4005_5555_5555_5555 ∷ 0x3ff5_5555_5555_5555 ∷ [])
    (cell 6 3 1 4 ∷ cell 6 4 2 5 ∷ cell 6 5 0 3 ∷ cell 12 9 8 10 ∷ cell 12 10 0 11 ∷ cell 12 11 7 9 ∷ cell 14 5 2 13 ∷ cell 14 13 7 11 ∷ cell 14 11 0 5 ∷ [])

-- another, which touches itself: from (0,1) to (2,1) over (1,1), in units; accepted with 3 cuts where it would be 8 with corners 5
unfoldable pub third_corner_accepts : Trial
third_corner_accepts =
    gives
    (fresh
    (units (pos 0) (pos 1) ∷ units (pos 3) (pos 0) ∷ units (pos 2) (pos 1) ∷ units (pos 2) (pos 2) ∷ units (pos 0) (pos 1) ∷ units (pos 1) (pos 1) ∷ [])
    [])
    (0 ∷ 6 ∷ 0 ∷ 3 ∷ 4 ∷ 0 ∷ 4 ∷ 0 ∷ 17 ∷ 12 ∷ [])
    (0x3f38_0000_0000_0000 ∷ 0 ∷ 0x3f30_0000_0000_0000 ∷ 0x3f20_0000_0000_0000 ∷ 0x3f20_0000_0000_0000 ∷ 0x3f20_0000_0000_0000 ∷ 0x3f34_0000_0000_0000 ∷
    0x3f10_0000_0000_0000 ∷ 0x3f28_0000_0000_0000 ∷ 0x3f20_0000_0000_0000 ∷ 0x3f30_0000_0000_0000 ∷ 0x3f10_0000_0000_0000 ∷ 0x3f30_0000_0000_0000 ∷
    0x3f15_5555_5555_5555 ∷ 0 ∷ 0x3f20_0000_0000_0000 ∷ 0x3f10_0000_0000_0000 ∷ 0x3f20_0000_0000_0000 ∷ 0x3f28_0000_0000_0000 ∷ 0x3f10_0000_0000_0000 ∷
    0x3f25_5555_5555_5555 ∷ 0x3f15_5555_5555_5555 ∷ 0x3f30_0000_0000_0000 ∷ 0x3f30_0000_0000_0000 ∷ 0x3f20_0000_0000_0000 ∷ 0x3f28_0000_0000_0000 ∷
    0x3f28_0000_0000_0000 ∷ 0x3f28_0000_0000_0000 ∷ 0x3f20_0000_0000_0000 ∷ 0x3f25_5555_5555_5555 ∷ 0x3f30_0000_0000_0000 ∷ 0x3f28_0000_0000_0000 ∷
    0x3f2a_aaaa_aaaa_aaab ∷ 0x3f25_5555_5555_5555 ∷ [])
    (cell 6 3 1 4 ∷ cell 6 4 2 5 ∷ cell 6 5 0 3 ∷ cell 10 8 7 9 ∷ cell 10 9 0 5 ∷ cell 10 5 2 8 ∷ cell 14 12 7 8 ∷ cell 14 8 2 13 ∷ cell 14 13 11 12 ∷
    cell 16 4 1 15 ∷ cell 16 15 11 13 ∷ cell 16 13 2 4 ∷ [])

abbrev pub traps : List Trial
traps =
    equal_worst ∷ trapezoid ∷ far_snap ∷ turned_marks ∷ collinear ∷ pop_order ∷ retried ∷ retry_fails ∷ turned_part ∷ in_doubles_of ∷
    in_doubles_again ∷ in_doubles_wide ∷ in_doubles_over ∷ third_corner ∷ third_corner_accepts ∷ []
