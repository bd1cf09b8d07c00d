-- The receiving advice RECADV, EANCOM 2002, version 005, directory D.01B, as its guideline of 2008 has it.
use Rattle.std.specs.Prelude.{ℕ, List, [], ◌∷◌, codes}
use Rattle.message.specs.declared.row.Kind.TheVariants.{Trigger, Plain}
use Rattle.message.specs.declared.row.Need.TheVariants.{Optional, Required}
use Rattle.message.specs.declared.row.Row.{Row}
use Rattle.message.specs.Layouts.{Layout}
use Rattle.books.specs.Notation.{row, an, num, only, composite, simple, M, R, A, O, D, C, N}

abbrev pub recadv_identifier : List (List ℕ)
recadv_identifier = codes "RECADV" ∷ codes "D" ∷ codes "01B" ∷ codes "UN" ∷ codes "EAN005" ∷ []

-- tag, level, kind, need, limit
abbrev pub recadv_rows : List Row
recadv_rows =
    row "UNH" 0 Plain Required 1  -- 0 message header
    ∷ row "BGM" 0 Plain Required 1  -- 1 beginning of the message
    ∷ row "DTM" 0 Plain Required 10  -- 2 date of the message
    ∷ row "FTX" 0 Plain Optional 99  -- 3 free text
    ∷ row "RFF" 1 Trigger Optional 10  -- 4 SG1 reference group trigger (whole message)
    ∷ row "DTM" 1 Plain Optional 1  -- 5 SG1 date of the reference
    ∷ row "NAD" 1 Trigger Required 99  -- 6 SG4 party group trigger: name and address
    ∷ row "RFF" 2 Trigger Optional 10  -- 7 SG5 party reference group trigger
    ∷ row "CTA" 2 Trigger Optional 10  -- 8 SG6 contact group trigger
    ∷ row "COM" 2 Plain Optional 5  -- 9 SG6 communication contact
    ∷ row "TDT" 1 Trigger Optional 10  -- 10 SG10 transport group trigger
    ∷ row "EQD" 1 Trigger Optional 9999  -- 11 SG11 equipment group trigger
    ∷ row "SEL" 2 Trigger Optional 25  -- 12 SG13 seal group trigger
    ∷ row "CDI" 2 Plain Required 10  -- 13 SG13 physical or logical state of the seal
    ∷ row "CPS" 1 Trigger Optional 9999  -- 14 SG16 consignment packing sequence group trigger
    ∷ row "PAC" 2 Trigger Optional 9999  -- 15 SG17 package group trigger
    ∷ row "QVR" 2 Plain Optional 1  -- 16 SG17 quantity variance of the package
    ∷ row "PCI" 3 Trigger Optional 999  -- 17 SG18 package identification group trigger
    ∷ row "GIN" 4 Trigger Optional 999  -- 18 SG20 goods identity number group trigger
    ∷ row "LIN" 2 Trigger Optional 9999  -- 19 SG22 line item group trigger
    ∷ row "PIA" 2 Plain Optional 10  -- 20 SG22 additional product identification
    ∷ row "QTY" 2 Plain Optional 10  -- 21 SG22 quantity of the line
    ∷ row "QVR" 2 Plain Optional 10  -- 22 SG22 quantity variance of the line
    ∷ row "DTM" 2 Plain Optional 5  -- 23 SG22 date of the line
    ∷ row "RFF" 3 Trigger Optional 10  -- 24 SG28 line reference group trigger
    ∷ row "DTM" 3 Plain Optional 1  -- 25 SG28 date of the line reference
    ∷ row "PCI" 3 Trigger Optional 9999  -- 26 SG29 package identification group trigger (of the line)
    ∷ row "QTY" 3 Plain Optional 1  -- 27 SG29 quantity in the package
    ∷ row "QVR" 3 Plain Optional 1  -- 28 SG29 quantity variance in the package
    ∷ row "GIN" 4 Trigger Optional 10  -- 29 SG31 goods identity number group trigger (of the line)
    ∷ row "CNT" 0 Plain Optional 1  -- 30 control total
    ∷ row "UNT" 0 Plain Required 1  -- 31 message trailer
    ∷ []

-- 1 BGM: beginning of the message
abbrev recadv_layout1 : Layout
recadv_layout1 =
    composite R (only (an 3 R) ("632" ∷ []) ∷ an 17 N ∷ an 3 N ∷ an 35 O ∷ [])  -- C002: 1001 1131 3055 1000
    ∷ composite R (an 35 R ∷ an 9 N ∷ an 6 N ∷ [])  -- C106: 1004 1056 1060
    ∷ simple (only (an 3 R) ("5" ∷ "9" ∷ "31" ∷ "27" ∷ "29" ∷ []))  -- 1225
    ∷ simple (an 3 N)  -- 4343
    ∷ []

-- 2 DTM: date of the message
abbrev recadv_layout2 : Layout
recadv_layout2 =
    composite M (only (an 3 M) ("35" ∷ "50" ∷ "137" ∷ "200" ∷ "369" ∷ "772" ∷ "773" ∷ "774" ∷ "98E" ∷ []) ∷ an 35 R ∷ an 3 R ∷ [])  -- C507: 2005 2380 2379
    ∷ []

-- 3 FTX: free text
abbrev recadv_layout3 : Layout
recadv_layout3 =
    simple (an 3 M)  -- 4451
    ∷ simple (only (an 3 O) ("1" ∷ "3" ∷ []))  -- 4453
    ∷ composite D (an 17 M ∷ an 17 O ∷ an 3 D ∷ [])  -- C107: 4441 1131 3055
    ∷ composite D (an 512 M ∷ an 512 O ∷ an 512 O ∷ an 512 O ∷ an 512 O ∷ [])  -- C108: 4440 4440 4440 4440 4440
    ∷ simple (an 3 D)  -- 3453
    ∷ simple (an 3 N)  -- 4447
    ∷ []

-- 4 RFF: SG1 reference group trigger (whole message)
abbrev recadv_layout4 : Layout
recadv_layout4 =
    composite M (an 3 M ∷ an 70 R ∷ an 6 N ∷ an 35 N ∷ an 6 N ∷ [])  -- C506: 1153 1154 1156 4000 1060
    ∷ []

-- 5 DTM: SG1 date of the reference
abbrev recadv_layout5 : Layout
recadv_layout5 =
    composite M (only (an 3 M) ("171" ∷ []) ∷ an 35 R ∷ an 3 R ∷ [])  -- C507: 2005 2380 2379
    ∷ []

-- 6 NAD: SG4 party group trigger: name and address
abbrev recadv_layout6 : Layout
recadv_layout6 =
    simple (an 3 M)  -- 3035
    ∷ composite A (an 35 M ∷ an 17 N ∷ only (an 3 R) ("9" ∷ []) ∷ [])  -- C082: 3039 1131 3055
    ∷ composite N (an 35 M ∷ an 35 C ∷ an 35 C ∷ an 35 C ∷ an 35 C ∷ [])  -- C058: 3124 3124 3124 3124 3124
    ∷ composite D (an 35 M ∷ an 35 O ∷ an 35 O ∷ an 35 O ∷ an 35 O ∷ an 3 O ∷ [])  -- C080: 3036 3036 3036 3036 3036 3045
    ∷ composite D (an 35 M ∷ an 35 O ∷ an 35 O ∷ an 35 O ∷ [])  -- C059: 3042 3042 3042 3042
    ∷ simple (an 35 D)  -- 3164
    ∷ composite D (an 9 O ∷ an 17 O ∷ an 3 O ∷ an 70 O ∷ [])  -- C819: 3229 1131 3055 3228
    ∷ simple (an 17 D)  -- 3251
    ∷ simple (an 3 D)  -- 3207
    ∷ []

-- 7 RFF: SG5 party reference group trigger
abbrev recadv_layout7 : Layout
recadv_layout7 =
    composite M (only (an 3 M) ("YC1" ∷ "FC" ∷ "GN" ∷ "VA" ∷ []) ∷ an 70 R ∷ an 6 N ∷ an 35 N ∷ an 6 N ∷ [])  -- C506: 1153 1154 1156 4000 1060
    ∷ []

-- 8 CTA: SG6 contact group trigger
abbrev recadv_layout8 : Layout
recadv_layout8 =
    simple (an 3 R)  -- 3139
    ∷ composite O (an 17 O ∷ an 35 O ∷ [])  -- C056: 3413 3412
    ∷ []

-- 9 COM: SG6 communication contact
abbrev recadv_layout9 : Layout
recadv_layout9 =
    composite M (an 512 M ∷ an 3 M ∷ [])  -- C076: 3148 3155
    ∷ []

-- 10 TDT: SG10 transport group trigger
abbrev recadv_layout10 : Layout
recadv_layout10 =
    simple (an 3 M)  -- 8051
    ∷ simple (an 17 O)  -- 8028
    ∷ composite A (an 3 R ∷ an 17 N ∷ [])  -- C220: 8067 8066
    ∷ composite O (an 8 D ∷ an 17 D ∷ [])  -- C228: 8179 8178
    ∷ composite O (an 17 A ∷ an 17 O ∷ an 3 D ∷ an 35 O ∷ [])  -- C040: 3127 1131 3055 3128
    ∷ simple (an 3 O)  -- 8101
    ∷ composite N (an 3 M ∷ an 3 M ∷ an 17 C ∷ [])  -- C401: 8457 8459 7130
    ∷ composite O (an 9 O ∷ an 17 O ∷ an 3 D ∷ an 35 R ∷ an 3 O ∷ [])  -- C222: 8213 1131 3055 8212 8453
    ∷ simple (an 3 N)  -- 8281
    ∷ []

-- 11 EQD: SG11 equipment group trigger
abbrev recadv_layout11 : Layout
recadv_layout11 =
    simple (an 3 M)  -- 8053
    ∷ composite O (an 17 A ∷ an 17 O ∷ an 3 D ∷ an 3 O ∷ [])  -- C237: 8260 1131 3055 3207
    ∷ composite O (an 10 O ∷ an 17 O ∷ an 3 D ∷ an 35 O ∷ [])  -- C224: 8155 1131 3055 8154
    ∷ simple (an 3 O)  -- 8077
    ∷ simple (an 3 O)  -- 8249
    ∷ simple (an 3 O)  -- 8169
    ∷ []

-- 12 SEL: SG13 seal group trigger
abbrev recadv_layout12 : Layout
recadv_layout12 =
    simple (an 35 R)  -- 9308
    ∷ composite R (an 3 R ∷ an 17 O ∷ an 3 D ∷ an 35 O ∷ [])  -- C215: 9303 1131 3055 9302
    ∷ simple (an 3 N)  -- 4517
    ∷ composite N (an 35 M ∷ an 35 C ∷ [])  -- C208: 7402 7402
    ∷ []

-- 13 CDI: SG13 physical or logical state of the seal
abbrev recadv_layout13 : Layout
recadv_layout13 =
    simple (only (an 3 M) ("1" ∷ []))  -- 7001
    ∷ composite M (an 3 R ∷ an 17 O ∷ an 3 D ∷ an 70 O ∷ [])  -- C564: 7007 1131 3055 7006
    ∷ []

-- 14 CPS: SG16 consignment packing sequence group trigger
abbrev recadv_layout14 : Layout
recadv_layout14 =
    simple (an 35 M)  -- 7164
    ∷ simple (an 35 A)  -- 7166
    ∷ simple (an 3 N)  -- 7075
    ∷ []

-- 15 PAC: SG17 package group trigger
abbrev recadv_layout15 : Layout
recadv_layout15 =
    simple (num 8 D)  -- 7224
    ∷ composite C (an 3 C ∷ an 3 O ∷ an 3 O ∷ [])  -- C531: 7075 7233 7073
    ∷ composite O (an 17 A ∷ an 17 O ∷ an 3 D ∷ an 35 O ∷ [])  -- C202: 7065 1131 3055 7064
    ∷ composite N (an 3 M ∷ an 35 M ∷ an 3 C ∷ an 35 C ∷ an 3 C ∷ [])  -- C402: 7077 7064 7143 7064 7143
    ∷ composite D (an 3 O ∷ an 3 N ∷ [])  -- C532: 8395 8393
    ∷ []

-- 16 QVR: SG17 quantity variance of the package
abbrev recadv_layout16 : Layout
recadv_layout16 =
    composite R (num 15 M ∷ an 3 R ∷ [])  -- C279: 6064 6063
    ∷ simple (an 3 O)  -- 4221
    ∷ composite O (an 3 O ∷ an 17 O ∷ an 3 D ∷ an 35 O ∷ [])  -- C960: 4295 1131 3055 4294
    ∷ []

-- 17 PCI: SG18 package identification group trigger
abbrev recadv_layout17 : Layout
recadv_layout17 =
    simple (an 3 R)  -- 4233
    ∷ composite O (an 35 M ∷ an 35 O ∷ an 35 O ∷ an 35 O ∷ an 35 O ∷ an 35 O ∷ an 35 O ∷ an 35 O ∷ an 35 O ∷ [])  -- C210: 7102 7102 7102 7102 7102 7102 7102 7102 7102
    ∷ simple (an 3 N)  -- 8275
    ∷ composite N (an 3 M ∷ an 17 C ∷ an 3 C ∷ [])  -- C827: 7511 1131 3055
    ∷ []

-- 18 GIN: SG20 goods identity number group trigger
abbrev recadv_layout18 : Layout
recadv_layout18 =
    simple (an 3 M)  -- 7405
    ∷ composite M (an 35 M ∷ an 35 O ∷ [])  -- C208: 7402 7402
    ∷ composite O (an 35 M ∷ an 35 O ∷ [])  -- C208: 7402 7402
    ∷ composite O (an 35 M ∷ an 35 O ∷ [])  -- C208: 7402 7402
    ∷ composite O (an 35 M ∷ an 35 O ∷ [])  -- C208: 7402 7402
    ∷ composite O (an 35 M ∷ an 35 O ∷ [])  -- C208: 7402 7402
    ∷ []

-- 19 LIN: SG22 line item group trigger
abbrev recadv_layout19 : Layout
recadv_layout19 =
    simple (an 6 R)  -- 1082
    ∷ simple (an 3 N)  -- 1229
    ∷ composite D (an 35 R ∷ only (an 3 R) ("SRV" ∷ []) ∷ an 17 N ∷ an 3 N ∷ [])  -- C212: 7140 7143 1131 3055
    ∷ composite D (only (an 3 R) ("1" ∷ []) ∷ an 6 R ∷ [])  -- C829: 5495 1082
    ∷ simple (num 2 N)  -- 1222
    ∷ simple (an 3 N)  -- 7083
    ∷ []

-- 20 PIA: SG22 additional product identification
abbrev recadv_layout20 : Layout
recadv_layout20 =
    simple (only (an 3 M) ("1" ∷ "5" ∷ []))  -- 4347
    ∷ composite M (an 35 R ∷ an 3 R ∷ an 17 O ∷ an 3 D ∷ [])  -- C212: 7140 7143 1131 3055
    ∷ composite O (an 35 R ∷ an 3 R ∷ an 17 O ∷ an 3 D ∷ [])  -- C212: 7140 7143 1131 3055
    ∷ composite O (an 35 R ∷ an 3 R ∷ an 17 O ∷ an 3 D ∷ [])  -- C212: 7140 7143 1131 3055
    ∷ composite O (an 35 R ∷ an 3 R ∷ an 17 O ∷ an 3 D ∷ [])  -- C212: 7140 7143 1131 3055
    ∷ composite O (an 35 R ∷ an 3 R ∷ an 17 O ∷ an 3 D ∷ [])  -- C212: 7140 7143 1131 3055
    ∷ []

-- 21 QTY: SG22 quantity of the line
abbrev recadv_layout21 : Layout
recadv_layout21 =
    composite M (only (an 3 M) ("12" ∷ "21" ∷ "46" ∷ "48" ∷ "59" ∷ "66" ∷ "192" ∷ "194" ∷ []) ∷ an 35 M ∷ an 3 D ∷ [])  -- C186: 6063 6060 6411
    ∷ []

-- 22 QVR: SG22 quantity variance of the line
abbrev recadv_layout22 : Layout
recadv_layout22 =
    composite R (num 15 M ∷ an 3 R ∷ [])  -- C279: 6064 6063
    ∷ simple (an 3 O)  -- 4221
    ∷ composite O (an 3 R ∷ an 17 O ∷ an 3 D ∷ an 35 O ∷ [])  -- C960: 4295 1131 3055 4294
    ∷ []

-- 23 DTM: SG22 date of the line
abbrev recadv_layout23 : Layout
recadv_layout23 =
    composite M (an 3 M ∷ an 35 R ∷ an 3 R ∷ [])  -- C507: 2005 2380 2379
    ∷ []

-- 24 RFF: SG28 line reference group trigger
abbrev recadv_layout24 : Layout
recadv_layout24 =
    composite M (an 3 M ∷ an 70 R ∷ an 6 O ∷ an 35 N ∷ an 6 N ∷ [])  -- C506: 1153 1154 1156 4000 1060
    ∷ []

-- 25 DTM: SG28 date of the line reference
abbrev recadv_layout25 : Layout
recadv_layout25 =
    composite M (only (an 3 M) ("171" ∷ []) ∷ an 35 R ∷ an 3 R ∷ [])  -- C507: 2005 2380 2379
    ∷ []

-- 26 PCI: SG29 package identification group trigger (of the line)
abbrev recadv_layout26 : Layout
recadv_layout26 =
    simple (an 3 O)  -- 4233
    ∷ composite O (an 35 M ∷ an 35 O ∷ an 35 O ∷ an 35 O ∷ an 35 O ∷ an 35 O ∷ an 35 O ∷ an 35 O ∷ an 35 O ∷ [])  -- C210: 7102 7102 7102 7102 7102 7102 7102 7102 7102
    ∷ simple (an 3 N)  -- 8275
    ∷ composite N (an 3 M ∷ an 17 C ∷ an 3 C ∷ [])  -- C827: 7511 1131 3055
    ∷ []

-- 27 QTY: SG29 quantity in the package
abbrev recadv_layout27 : Layout
recadv_layout27 =
    composite M (only (an 3 M) ("194" ∷ []) ∷ an 35 M ∷ an 3 D ∷ [])  -- C186: 6063 6060 6411
    ∷ []

-- 28 QVR: SG29 quantity variance in the package
abbrev recadv_layout28 : Layout
recadv_layout28 =
    composite R (num 15 M ∷ an 3 R ∷ [])  -- C279: 6064 6063
    ∷ simple (an 3 O)  -- 4221
    ∷ composite O (an 3 R ∷ an 17 O ∷ an 3 D ∷ an 35 O ∷ [])  -- C960: 4295 1131 3055 4294
    ∷ []

-- 29 GIN: SG31 goods identity number group trigger (of the line)
abbrev recadv_layout29 : Layout
recadv_layout29 =
    simple (an 3 M)  -- 7405
    ∷ composite M (an 35 M ∷ an 35 O ∷ [])  -- C208: 7402 7402
    ∷ composite O (an 35 M ∷ an 35 O ∷ [])  -- C208: 7402 7402
    ∷ composite O (an 35 M ∷ an 35 O ∷ [])  -- C208: 7402 7402
    ∷ composite O (an 35 M ∷ an 35 O ∷ [])  -- C208: 7402 7402
    ∷ composite O (an 35 M ∷ an 35 O ∷ [])  -- C208: 7402 7402
    ∷ []

-- 30 CNT: control total
abbrev recadv_layout30 : Layout
recadv_layout30 =
    composite M (only (an 3 M) ("2" ∷ []) ∷ num 18 M ∷ an 3 O ∷ [])  -- C270: 6069 6066 6411
    ∷ []

-- the header and the trailer have no elements in a book
abbrev pub recadv_layouts : List Layout
recadv_layouts =
    []
    ∷ recadv_layout1
    ∷ recadv_layout2
    ∷ recadv_layout3
    ∷ recadv_layout4
    ∷ recadv_layout5
    ∷ recadv_layout6
    ∷ recadv_layout7
    ∷ recadv_layout8
    ∷ recadv_layout9
    ∷ recadv_layout10
    ∷ recadv_layout11
    ∷ recadv_layout12
    ∷ recadv_layout13
    ∷ recadv_layout14
    ∷ recadv_layout15
    ∷ recadv_layout16
    ∷ recadv_layout17
    ∷ recadv_layout18
    ∷ recadv_layout19
    ∷ recadv_layout20
    ∷ recadv_layout21
    ∷ recadv_layout22
    ∷ recadv_layout23
    ∷ recadv_layout24
    ∷ recadv_layout25
    ∷ recadv_layout26
    ∷ recadv_layout27
    ∷ recadv_layout28
    ∷ recadv_layout29
    ∷ recadv_layout30
    ∷ []
    ∷ []
