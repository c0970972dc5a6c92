-- The code rows of the line quantiser, 256 to a band, three numbers wide in bands 0 and 1 and four in band 2: the ITU's published numbers,
-- as the Rust has them in LSP_CODEBOOK_BAND0_Q13, LSP_CODEBOOK_BAND1_Q13 and LSP_CODEBOOK_BAND2_Q13. A row stands on a line, row 0 first.
-- §2.6; document 01, B25. Assumes nothing.
use mathlib.Core.List.{List, [], ◌∷◌, ◌++◌, flatten}
use Rattle.std.specs.Prelude.{ℕ, ℤ, pos, neg_ℤ}

-- −n
abbrev pub neg : ℕ → ℤ
neg n = neg_ℤ (pos n)

unfoldable pub lsp_band0 : List (List ℤ)
lsp_band0 =
    (pos 0 ∷ pos 0 ∷ pos 0 ∷ []) ∷
    (neg 270 ∷ neg 1372 ∷ neg 1032 ∷ []) ∷
    (neg 541 ∷ neg 1650 ∷ neg 1382 ∷ []) ∷
    (neg 723 ∷ neg 2011 ∷ neg 2213 ∷ []) ∷
    (neg 941 ∷ neg 1122 ∷ neg 1942 ∷ []) ∷
    (neg 780 ∷ neg 1145 ∷ neg 2454 ∷ []) ∷
    (neg 884 ∷ neg 1309 ∷ neg 1373 ∷ []) ∷
    (neg 1051 ∷ neg 1523 ∷ neg 1766 ∷ []) ∷
    (neg 1083 ∷ neg 1622 ∷ neg 2300 ∷ []) ∷
    (neg 777 ∷ neg 1377 ∷ neg 2147 ∷ []) ∷
    (neg 935 ∷ neg 1467 ∷ neg 2763 ∷ []) ∷
    (neg 802 ∷ neg 1327 ∷ neg 3471 ∷ []) ∷
    (neg 935 ∷ neg 1959 ∷ neg 3999 ∷ []) ∷
    (neg 240 ∷ neg 89 ∷ pos 222 ∷ []) ∷
    (neg 661 ∷ neg 257 ∷ neg 160 ∷ []) ∷
    (neg 994 ∷ neg 466 ∷ neg 419 ∷ []) ∷
    (neg 188 ∷ neg 164 ∷ neg 278 ∷ []) ∷
    (neg 342 ∷ neg 512 ∷ neg 415 ∷ []) ∷
    (neg 607 ∷ neg 511 ∷ neg 797 ∷ []) ∷
    (pos 16 ∷ pos 19 ∷ neg 716 ∷ []) ∷
    (pos 374 ∷ pos 425 ∷ neg 972 ∷ []) ∷
    (neg 346 ∷ pos 245 ∷ neg 282 ∷ []) ∷
    (neg 265 ∷ pos 506 ∷ neg 754 ∷ []) ∷
    (neg 620 ∷ neg 147 ∷ pos 1955 ∷ []) ∷
    (neg 742 ∷ neg 860 ∷ pos 2597 ∷ []) ∷
    (neg 150 ∷ neg 352 ∷ pos 2704 ∷ []) ∷
    (pos 305 ∷ pos 880 ∷ pos 1954 ∷ []) ∷
    (pos 123 ∷ pos 731 ∷ pos 2766 ∷ []) ∷
    (neg 348 ∷ pos 765 ∷ pos 3327 ∷ []) ∷
    (pos 618 ∷ pos 221 ∷ pos 3258 ∷ []) ∷
    (neg 178 ∷ neg 47 ∷ pos 4219 ∷ []) ∷
    (pos 393 ∷ pos 1304 ∷ pos 3842 ∷ []) ∷
    (pos 698 ∷ pos 1702 ∷ pos 4801 ∷ []) ∷
    (pos 63 ∷ neg 584 ∷ pos 1229 ∷ []) ∷
    (neg 215 ∷ neg 732 ∷ pos 1704 ∷ []) ∷
    (pos 172 ∷ neg 335 ∷ pos 1909 ∷ []) ∷
    (neg 2 ∷ pos 216 ∷ pos 1797 ∷ []) ∷
    (pos 353 ∷ pos 127 ∷ pos 2205 ∷ []) ∷
    (neg 1208 ∷ pos 188 ∷ pos 11 ∷ []) ∷
    (neg 513 ∷ neg 75 ∷ neg 683 ∷ []) ∷
    (neg 973 ∷ pos 222 ∷ neg 646 ∷ []) ∷
    (neg 616 ∷ neg 843 ∷ neg 388 ∷ []) ∷
    (neg 950 ∷ neg 1113 ∷ neg 359 ∷ []) ∷
    (neg 1431 ∷ neg 623 ∷ neg 705 ∷ []) ∷
    (neg 1398 ∷ neg 1063 ∷ neg 178 ∷ []) ∷
    (neg 45 ∷ neg 461 ∷ pos 35 ∷ []) ∷
    (neg 9 ∷ neg 657 ∷ neg 216 ∷ []) ∷
    (pos 127 ∷ neg 1078 ∷ pos 95 ∷ []) ∷
    (neg 950 ∷ neg 1156 ∷ pos 584 ∷ []) ∷
    (neg 1480 ∷ neg 1494 ∷ pos 449 ∷ []) ∷
    (neg 120 ∷ neg 705 ∷ pos 516 ∷ []) ∷
    (neg 368 ∷ neg 961 ∷ pos 727 ∷ []) ∷
    (neg 378 ∷ neg 526 ∷ pos 973 ∷ []) ∷
    (neg 793 ∷ neg 614 ∷ pos 676 ∷ []) ∷
    (neg 801 ∷ neg 755 ∷ pos 1287 ∷ []) ∷
    (neg 1476 ∷ neg 340 ∷ pos 1636 ∷ []) ∷
    (neg 505 ∷ neg 1254 ∷ pos 1543 ∷ []) ∷
    (neg 1243 ∷ neg 1622 ∷ pos 1532 ∷ []) ∷
    (neg 776 ∷ neg 1477 ∷ neg 655 ∷ []) ∷
    (neg 1151 ∷ neg 1296 ∷ neg 823 ∷ []) ∷
    (neg 1153 ∷ neg 1672 ∷ neg 1124 ∷ []) ∷
    (neg 1291 ∷ neg 2003 ∷ neg 1702 ∷ []) ∷
    (neg 622 ∷ neg 1283 ∷ pos 57 ∷ []) ∷
    (neg 471 ∷ neg 1611 ∷ pos 509 ∷ []) ∷
    (neg 1060 ∷ neg 1570 ∷ neg 139 ∷ []) ∷
    (neg 873 ∷ neg 2156 ∷ neg 536 ∷ []) ∷
    (neg 1716 ∷ neg 2021 ∷ neg 364 ∷ []) ∷
    (neg 2150 ∷ neg 3218 ∷ neg 1291 ∷ []) ∷
    (neg 1248 ∷ neg 1945 ∷ neg 2904 ∷ []) ∷
    (neg 1215 ∷ neg 2633 ∷ neg 2855 ∷ []) ∷
    (pos 167 ∷ neg 244 ∷ pos 84 ∷ []) ∷
    (pos 349 ∷ neg 412 ∷ neg 217 ∷ []) ∷
    (neg 40 ∷ neg 352 ∷ pos 632 ∷ []) ∷
    (pos 227 ∷ neg 529 ∷ pos 405 ∷ []) ∷
    (pos 68 ∷ neg 383 ∷ neg 443 ∷ []) ∷
    (pos 167 ∷ neg 558 ∷ neg 706 ∷ []) ∷
    (neg 275 ∷ neg 854 ∷ neg 14 ∷ []) ∷
    (neg 351 ∷ neg 1089 ∷ neg 449 ∷ []) ∷
    (pos 341 ∷ neg 72 ∷ neg 289 ∷ []) ∷
    (pos 603 ∷ neg 106 ∷ neg 474 ∷ []) ∷
    (pos 322 ∷ neg 219 ∷ neg 649 ∷ []) ∷
    (pos 179 ∷ neg 317 ∷ neg 998 ∷ []) ∷
    (pos 450 ∷ neg 291 ∷ neg 996 ∷ []) ∷
    (pos 555 ∷ pos 195 ∷ neg 525 ∷ []) ∷
    (pos 784 ∷ pos 272 ∷ neg 831 ∷ []) ∷
    (neg 148 ∷ neg 384 ∷ neg 849 ∷ []) ∷
    (pos 82 ∷ neg 536 ∷ neg 1357 ∷ []) ∷
    (pos 238 ∷ neg 172 ∷ neg 1354 ∷ []) ∷
    (pos 422 ∷ neg 268 ∷ neg 1841 ∷ []) ∷
    (pos 297 ∷ neg 737 ∷ neg 2079 ∷ []) ∷
    (neg 111 ∷ neg 801 ∷ neg 598 ∷ []) ∷
    (pos 1 ∷ neg 668 ∷ neg 984 ∷ []) ∷
    (neg 131 ∷ neg 818 ∷ neg 1299 ∷ []) ∷
    (neg 329 ∷ neg 521 ∷ neg 1310 ∷ []) ∷
    (neg 151 ∷ neg 778 ∷ neg 1834 ∷ []) ∷
    (neg 93 ∷ neg 352 ∷ neg 1746 ∷ []) ∷
    (neg 568 ∷ neg 640 ∷ neg 1821 ∷ []) ∷
    (neg 509 ∷ neg 941 ∷ neg 2183 ∷ []) ∷
    (pos 464 ∷ neg 815 ∷ neg 1250 ∷ []) ∷
    (pos 79 ∷ neg 1133 ∷ neg 1597 ∷ []) ∷
    (neg 184 ∷ neg 1353 ∷ neg 2123 ∷ []) ∷
    (neg 196 ∷ neg 410 ∷ neg 2427 ∷ []) ∷
    (neg 192 ∷ neg 833 ∷ neg 2810 ∷ []) ∷
    (neg 259 ∷ neg 1382 ∷ neg 3045 ∷ []) ∷
    (neg 217 ∷ pos 4 ∷ neg 1166 ∷ []) ∷
    (neg 800 ∷ neg 325 ∷ neg 1219 ∷ []) ∷
    (neg 363 ∷ neg 830 ∷ neg 898 ∷ []) ∷
    (neg 661 ∷ neg 1134 ∷ neg 960 ∷ []) ∷
    (neg 386 ∷ neg 980 ∷ neg 1501 ∷ []) ∷
    (neg 627 ∷ neg 1159 ∷ neg 1722 ∷ []) ∷
    (neg 903 ∷ neg 829 ∷ neg 855 ∷ []) ∷
    (neg 685 ∷ neg 829 ∷ neg 1313 ∷ []) ∷
    (neg 1065 ∷ neg 959 ∷ neg 1405 ∷ []) ∷
    (pos 441 ∷ pos 25 ∷ neg 847 ∷ []) ∷
    (pos 655 ∷ neg 27 ∷ neg 1181 ∷ []) ∷
    (pos 1159 ∷ neg 110 ∷ neg 705 ∷ []) ∷
    (pos 856 ∷ pos 253 ∷ neg 1671 ∷ []) ∷
    (pos 415 ∷ pos 404 ∷ neg 1 ∷ []) ∷
    (pos 322 ∷ pos 903 ∷ neg 398 ∷ []) ∷
    (pos 670 ∷ pos 499 ∷ neg 292 ∷ []) ∷
    (pos 803 ∷ pos 591 ∷ neg 610 ∷ []) ∷
    (pos 1144 ∷ pos 591 ∷ neg 814 ∷ []) ∷
    (pos 717 ∷ pos 183 ∷ pos 393 ∷ []) ∷
    (pos 857 ∷ pos 381 ∷ pos 106 ∷ []) ∷
    (pos 609 ∷ pos 62 ∷ neg 27 ∷ []) ∷
    (pos 792 ∷ pos 198 ∷ neg 325 ∷ []) ∷
    (pos 735 ∷ pos 805 ∷ pos 88 ∷ []) ∷
    (pos 1142 ∷ pos 812 ∷ pos 78 ∷ []) ∷
    (pos 1028 ∷ pos 366 ∷ neg 292 ∷ []) ∷
    (pos 1309 ∷ pos 743 ∷ neg 237 ∷ []) ∷
    (pos 1615 ∷ pos 589 ∷ neg 79 ∷ []) ∷
    (pos 1010 ∷ pos 639 ∷ neg 243 ∷ []) ∷
    (pos 999 ∷ pos 964 ∷ neg 311 ∷ []) ∷
    (pos 1500 ∷ pos 1137 ∷ neg 615 ∷ []) ∷
    (pos 988 ∷ pos 357 ∷ pos 646 ∷ []) ∷
    (pos 1227 ∷ pos 667 ∷ pos 683 ∷ []) ∷
    (pos 1164 ∷ pos 1565 ∷ pos 894 ∷ []) ∷
    (pos 1392 ∷ pos 2015 ∷ pos 477 ∷ []) ∷
    (pos 1138 ∷ pos 533 ∷ pos 250 ∷ []) ∷
    (pos 1437 ∷ pos 896 ∷ pos 391 ∷ []) ∷
    (pos 1765 ∷ pos 1118 ∷ pos 99 ∷ []) ∷
    (pos 1112 ∷ pos 1090 ∷ pos 802 ∷ []) ∷
    (pos 1596 ∷ pos 846 ∷ pos 1134 ∷ []) ∷
    (pos 937 ∷ pos 1161 ∷ pos 279 ∷ []) ∷
    (pos 1719 ∷ pos 1254 ∷ pos 683 ∷ []) ∷
    (pos 1338 ∷ pos 1086 ∷ pos 35 ∷ []) ∷
    (pos 1419 ∷ pos 1324 ∷ pos 428 ∷ []) ∷
    (pos 1428 ∷ pos 1524 ∷ pos 40 ∷ []) ∷
    (pos 2108 ∷ pos 1594 ∷ pos 89 ∷ []) ∷
    (pos 1015 ∷ pos 544 ∷ pos 1222 ∷ []) ∷
    (pos 1121 ∷ pos 925 ∷ pos 1263 ∷ []) ∷
    (pos 1030 ∷ pos 1318 ∷ pos 1485 ∷ []) ∷
    (pos 1295 ∷ pos 789 ∷ pos 1817 ∷ []) ∷
    (pos 1323 ∷ pos 1272 ∷ pos 1909 ∷ []) ∷
    (pos 1724 ∷ pos 1237 ∷ pos 1803 ∷ []) ∷
    (pos 1797 ∷ pos 1689 ∷ pos 858 ∷ []) ∷
    (pos 2149 ∷ pos 1367 ∷ pos 1301 ∷ []) ∷
    (pos 2302 ∷ pos 1867 ∷ pos 761 ∷ []) ∷
    (pos 2863 ∷ pos 2351 ∷ pos 1053 ∷ []) ∷
    (pos 52 ∷ pos 163 ∷ neg 76 ∷ []) ∷
    (pos 230 ∷ pos 309 ∷ neg 492 ∷ []) ∷
    (neg 71 ∷ pos 619 ∷ pos 39 ∷ []) ∷
    (neg 218 ∷ pos 856 ∷ pos 499 ∷ []) ∷
    (neg 654 ∷ pos 736 ∷ neg 207 ∷ []) ∷
    (neg 535 ∷ pos 1259 ∷ pos 155 ∷ []) ∷
    (neg 480 ∷ pos 1476 ∷ pos 643 ∷ []) ∷
    (pos 262 ∷ pos 1081 ∷ pos 102 ∷ []) ∷
    (pos 309 ∷ pos 1592 ∷ neg 182 ∷ []) ∷
    (pos 627 ∷ pos 1629 ∷ pos 534 ∷ []) ∷
    (pos 337 ∷ pos 643 ∷ pos 456 ∷ []) ∷
    (pos 758 ∷ pos 670 ∷ pos 713 ∷ []) ∷
    (pos 202 ∷ pos 1126 ∷ pos 658 ∷ []) ∷
    (pos 612 ∷ pos 1131 ∷ pos 666 ∷ []) ∷
    (pos 686 ∷ pos 1223 ∷ pos 1136 ∷ []) ∷
    (neg 131 ∷ pos 377 ∷ pos 525 ∷ []) ∷
    (pos 42 ∷ pos 708 ∷ pos 907 ∷ []) ∷
    (pos 87 ∷ pos 1488 ∷ pos 1035 ∷ []) ∷
    (pos 432 ∷ pos 2117 ∷ pos 904 ∷ []) ∷
    (pos 137 ∷ pos 981 ∷ pos 1332 ∷ []) ∷
    (neg 447 ∷ pos 1014 ∷ pos 1136 ∷ []) ∷
    (neg 839 ∷ pos 1793 ∷ pos 1246 ∷ []) ∷
    (neg 559 ∷ pos 297 ∷ pos 198 ∷ []) ∷
    (neg 850 ∷ pos 685 ∷ pos 446 ∷ []) ∷
    (neg 1273 ∷ pos 632 ∷ pos 826 ∷ []) ∷
    (neg 401 ∷ neg 544 ∷ pos 173 ∷ []) ∷
    (neg 753 ∷ neg 793 ∷ pos 144 ∷ []) ∷
    (neg 436 ∷ neg 9 ∷ pos 772 ∷ []) ∷
    (neg 115 ∷ neg 243 ∷ pos 1310 ∷ []) ∷
    (neg 670 ∷ neg 269 ∷ pos 374 ∷ []) ∷
    (neg 1027 ∷ neg 13 ∷ pos 639 ∷ []) ∷
    (neg 887 ∷ neg 81 ∷ pos 1137 ∷ []) ∷
    (neg 1277 ∷ neg 455 ∷ pos 158 ∷ []) ∷
    (neg 1411 ∷ neg 720 ∷ pos 736 ∷ []) ∷
    (pos 172 ∷ pos 88 ∷ pos 403 ∷ []) ∷
    (pos 386 ∷ pos 255 ∷ pos 756 ∷ []) ∷
    (neg 500 ∷ pos 522 ∷ pos 910 ∷ []) ∷
    (neg 958 ∷ pos 659 ∷ pos 1388 ∷ []) ∷
    (neg 395 ∷ pos 301 ∷ pos 1344 ∷ []) ∷
    (neg 356 ∷ pos 768 ∷ pos 1813 ∷ []) ∷
    (neg 613 ∷ pos 841 ∷ pos 2419 ∷ []) ∷
    (pos 445 ∷ neg 122 ∷ pos 252 ∷ []) ∷
    (pos 629 ∷ neg 87 ∷ pos 723 ∷ []) ∷
    (pos 283 ∷ neg 253 ∷ pos 870 ∷ []) ∷
    (pos 456 ∷ neg 116 ∷ pos 1381 ∷ []) ∷
    (pos 757 ∷ pos 180 ∷ pos 1059 ∷ []) ∷
    (pos 532 ∷ pos 408 ∷ pos 1509 ∷ []) ∷
    (pos 947 ∷ pos 288 ∷ pos 1806 ∷ []) ∷
    (pos 1325 ∷ pos 994 ∷ pos 2524 ∷ []) ∷
    (pos 892 ∷ pos 1219 ∷ pos 3023 ∷ []) ∷
    (pos 1397 ∷ pos 1596 ∷ pos 3406 ∷ []) ∷
    (pos 1143 ∷ pos 1552 ∷ pos 2546 ∷ []) ∷
    (pos 1850 ∷ pos 1433 ∷ pos 2710 ∷ []) ∷
    (neg 10 ∷ pos 134 ∷ pos 1002 ∷ []) ∷
    (pos 154 ∷ pos 499 ∷ pos 1323 ∷ []) ∷
    (pos 508 ∷ pos 792 ∷ pos 1117 ∷ []) ∷
    (pos 509 ∷ pos 1340 ∷ pos 1616 ∷ []) ∷
    (pos 762 ∷ pos 862 ∷ pos 1608 ∷ []) ∷
    (pos 787 ∷ pos 740 ∷ pos 2320 ∷ []) ∷
    (pos 794 ∷ pos 1727 ∷ pos 1283 ∷ []) ∷
    (pos 465 ∷ pos 2108 ∷ pos 1660 ∷ []) ∷
    (neg 120 ∷ pos 1451 ∷ pos 1613 ∷ []) ∷
    (neg 386 ∷ pos 2016 ∷ pos 2169 ∷ []) ∷
    (pos 891 ∷ pos 1225 ∷ pos 2050 ∷ []) ∷
    (pos 456 ∷ pos 1480 ∷ pos 2185 ∷ []) ∷
    (pos 1493 ∷ pos 1283 ∷ pos 1209 ∷ []) ∷
    (pos 1397 ∷ pos 1636 ∷ pos 1518 ∷ []) ∷
    (pos 1776 ∷ pos 1738 ∷ pos 1552 ∷ []) ∷
    (pos 1572 ∷ pos 1698 ∷ pos 2141 ∷ []) ∷
    (pos 1389 ∷ pos 2126 ∷ pos 1271 ∷ []) ∷
    (pos 1959 ∷ pos 2413 ∷ pos 1119 ∷ []) ∷
    (pos 1365 ∷ pos 2892 ∷ pos 1505 ∷ []) ∷
    (pos 2206 ∷ pos 1971 ∷ pos 1623 ∷ []) ∷
    (pos 2076 ∷ pos 1950 ∷ pos 2280 ∷ []) ∷
    (pos 1717 ∷ pos 2291 ∷ pos 1867 ∷ []) ∷
    (pos 2366 ∷ pos 2515 ∷ pos 1953 ∷ []) ∷
    (pos 2865 ∷ pos 2838 ∷ pos 2522 ∷ []) ∷
    (pos 2535 ∷ pos 3465 ∷ pos 2011 ∷ []) ∷
    (pos 3381 ∷ pos 4127 ∷ pos 2638 ∷ []) ∷
    (pos 836 ∷ pos 2667 ∷ pos 2289 ∷ []) ∷
    (pos 1761 ∷ pos 2773 ∷ pos 2337 ∷ []) ∷
    (pos 1415 ∷ pos 3325 ∷ pos 2911 ∷ []) ∷
    (pos 2354 ∷ pos 3138 ∷ pos 3126 ∷ []) ∷
    (pos 2659 ∷ pos 4192 ∷ pos 4010 ∷ []) ∷
    (pos 1048 ∷ pos 1786 ∷ pos 1818 ∷ []) ∷
    (pos 1242 ∷ pos 2111 ∷ pos 2240 ∷ []) ∷
    (pos 1512 ∷ pos 2079 ∷ pos 2780 ∷ []) ∷
    (pos 1573 ∷ pos 2491 ∷ pos 3138 ∷ []) ∷
    (pos 2230 ∷ pos 2377 ∷ pos 2782 ∷ []) ∷
    (pos 416 ∷ pos 1773 ∷ pos 2704 ∷ []) ∷
    (pos 725 ∷ pos 2336 ∷ pos 3297 ∷ []) ∷
    (pos 1252 ∷ pos 2373 ∷ pos 3978 ∷ []) ∷
    (pos 2094 ∷ pos 2268 ∷ pos 3568 ∷ []) ∷
    (pos 2011 ∷ pos 2712 ∷ pos 4528 ∷ []) ∷
    (pos 1341 ∷ pos 3507 ∷ pos 3876 ∷ []) ∷
    (pos 1216 ∷ pos 3919 ∷ pos 4922 ∷ []) ∷
    (pos 1693 ∷ pos 4793 ∷ pos 6012 ∷ []) ∷
    []

unfoldable pub lsp_band1 : List (List ℤ)
lsp_band1 =
    (pos 0 ∷ pos 0 ∷ pos 0 ∷ []) ∷
    (neg 2114 ∷ neg 1302 ∷ pos 76 ∷ []) ∷
    (neg 2652 ∷ neg 1278 ∷ neg 1368 ∷ []) ∷
    (neg 2847 ∷ neg 828 ∷ neg 349 ∷ []) ∷
    (neg 3812 ∷ neg 2190 ∷ neg 349 ∷ []) ∷
    (neg 3946 ∷ neg 364 ∷ neg 449 ∷ []) ∷
    (neg 2725 ∷ neg 4492 ∷ neg 3607 ∷ []) ∷
    (neg 3495 ∷ neg 4764 ∷ neg 1744 ∷ []) ∷
    (neg 51 ∷ neg 756 ∷ pos 84 ∷ []) ∷
    (neg 153 ∷ neg 1191 ∷ pos 504 ∷ []) ∷
    (pos 108 ∷ neg 1418 ∷ pos 1167 ∷ []) ∷
    (neg 835 ∷ neg 896 ∷ pos 390 ∷ []) ∷
    (neg 569 ∷ neg 1702 ∷ pos 87 ∷ []) ∷
    (neg 1151 ∷ neg 1818 ∷ pos 933 ∷ []) ∷
    (neg 1826 ∷ neg 2547 ∷ pos 411 ∷ []) ∷
    (neg 1842 ∷ neg 1818 ∷ pos 1451 ∷ []) ∷
    (neg 2438 ∷ neg 1611 ∷ pos 781 ∷ []) ∷
    (neg 2747 ∷ neg 2477 ∷ pos 1311 ∷ []) ∷
    (neg 940 ∷ pos 1252 ∷ pos 477 ∷ []) ∷
    (neg 1629 ∷ pos 1688 ∷ pos 602 ∷ []) ∷
    (neg 1202 ∷ pos 617 ∷ pos 280 ∷ []) ∷
    (neg 1737 ∷ pos 393 ∷ pos 580 ∷ []) ∷
    (neg 1528 ∷ pos 1077 ∷ pos 1199 ∷ []) ∷
    (neg 2165 ∷ neg 161 ∷ pos 1408 ∷ []) ∷
    (neg 2504 ∷ neg 1087 ∷ pos 2371 ∷ []) ∷
    (neg 3458 ∷ neg 175 ∷ pos 1395 ∷ []) ∷
    (neg 1397 ∷ neg 98 ∷ neg 843 ∷ []) ∷
    (neg 2252 ∷ neg 177 ∷ neg 1149 ∷ []) ∷
    (neg 1489 ∷ neg 726 ∷ neg 1283 ∷ []) ∷
    (neg 1558 ∷ neg 265 ∷ neg 1744 ∷ []) ∷
    (neg 1867 ∷ neg 821 ∷ neg 1897 ∷ []) ∷
    (neg 2062 ∷ neg 1516 ∷ neg 2340 ∷ []) ∷
    (neg 2595 ∷ neg 1142 ∷ neg 2861 ∷ []) ∷
    (pos 170 ∷ pos 46 ∷ neg 819 ∷ []) ∷
    (neg 193 ∷ neg 204 ∷ neg 1151 ∷ []) ∷
    (pos 326 ∷ neg 196 ∷ neg 1532 ∷ []) ∷
    (pos 780 ∷ pos 329 ∷ neg 816 ∷ []) ∷
    (pos 201 ∷ pos 369 ∷ neg 1243 ∷ []) ∷
    (pos 650 ∷ neg 209 ∷ neg 1060 ∷ []) ∷
    (pos 1144 ∷ neg 15 ∷ neg 1216 ∷ []) ∷
    (pos 1203 ∷ neg 259 ∷ neg 1867 ∷ []) ∷
    (neg 890 ∷ neg 564 ∷ neg 1430 ∷ []) ∷
    (neg 638 ∷ neg 852 ∷ neg 1921 ∷ []) ∷
    (pos 177 ∷ neg 739 ∷ neg 1358 ∷ []) ∷
    (neg 261 ∷ neg 526 ∷ neg 1666 ∷ []) ∷
    (pos 206 ∷ neg 407 ∷ neg 2255 ∷ []) ∷
    (pos 338 ∷ neg 526 ∷ neg 822 ∷ []) ∷
    (pos 421 ∷ neg 1095 ∷ neg 1009 ∷ []) ∷
    (pos 765 ∷ neg 607 ∷ neg 1408 ∷ []) ∷
    (pos 825 ∷ neg 1295 ∷ neg 2004 ∷ []) ∷
    (pos 357 ∷ neg 905 ∷ neg 1815 ∷ []) ∷
    (neg 58 ∷ neg 1248 ∷ neg 1588 ∷ []) ∷
    (neg 596 ∷ neg 1436 ∷ neg 2046 ∷ []) ∷
    (neg 73 ∷ neg 1159 ∷ neg 2116 ∷ []) ∷
    (neg 115 ∷ neg 1382 ∷ neg 2581 ∷ []) ∷
    (neg 160 ∷ neg 1723 ∷ neg 1952 ∷ []) ∷
    (neg 6 ∷ neg 2196 ∷ neg 2954 ∷ []) ∷
    (neg 649 ∷ neg 1705 ∷ neg 2603 ∷ []) ∷
    (neg 617 ∷ neg 1453 ∷ neg 3282 ∷ []) ∷
    (neg 949 ∷ neg 2019 ∷ neg 3102 ∷ []) ∷
    (neg 812 ∷ pos 1544 ∷ pos 1937 ∷ []) ∷
    (neg 1854 ∷ pos 574 ∷ pos 2000 ∷ []) ∷
    (neg 1463 ∷ pos 1140 ∷ pos 2649 ∷ []) ∷
    (neg 2683 ∷ pos 1748 ∷ pos 1452 ∷ []) ∷
    (neg 2486 ∷ pos 2241 ∷ pos 2523 ∷ []) ∷
    (pos 783 ∷ pos 1910 ∷ pos 1435 ∷ []) ∷
    (pos 581 ∷ pos 2682 ∷ pos 1376 ∷ []) ∷
    (pos 236 ∷ pos 2197 ∷ pos 1885 ∷ []) ∷
    (neg 453 ∷ pos 2943 ∷ pos 2057 ∷ []) ∷
    (neg 682 ∷ pos 2178 ∷ pos 2565 ∷ []) ∷
    (neg 1342 ∷ pos 3201 ∷ pos 3328 ∷ []) ∷
    (neg 288 ∷ neg 184 ∷ pos 262 ∷ []) ∷
    (pos 121 ∷ neg 149 ∷ neg 183 ∷ []) ∷
    (pos 758 ∷ neg 412 ∷ pos 206 ∷ []) ∷
    (pos 1038 ∷ neg 204 ∷ pos 853 ∷ []) ∷
    (pos 1577 ∷ neg 457 ∷ pos 700 ∷ []) ∷
    (pos 937 ∷ neg 640 ∷ neg 567 ∷ []) ∷
    (pos 1508 ∷ neg 528 ∷ neg 1024 ∷ []) ∷
    (neg 225 ∷ neg 527 ∷ neg 427 ∷ []) ∷
    (neg 564 ∷ neg 1095 ∷ neg 332 ∷ []) ∷
    (neg 742 ∷ neg 353 ∷ neg 186 ∷ []) ∷
    (neg 1288 ∷ neg 459 ∷ pos 84 ∷ []) ∷
    (neg 1853 ∷ neg 484 ∷ neg 274 ∷ []) ∷
    (neg 1554 ∷ neg 731 ∷ pos 825 ∷ []) ∷
    (neg 2425 ∷ neg 234 ∷ pos 382 ∷ []) ∷
    (neg 1722 ∷ pos 293 ∷ neg 271 ∷ []) ∷
    (neg 2515 ∷ pos 425 ∷ neg 564 ∷ []) ∷
    (neg 2599 ∷ pos 818 ∷ pos 464 ∷ []) ∷
    (neg 358 ∷ pos 118 ∷ neg 375 ∷ []) ∷
    (neg 613 ∷ pos 198 ∷ neg 874 ∷ []) ∷
    (neg 690 ∷ pos 683 ∷ neg 324 ∷ []) ∷
    (neg 1352 ∷ pos 1155 ∷ neg 168 ∷ []) ∷
    (neg 1093 ∷ pos 129 ∷ neg 324 ∷ []) ∷
    (neg 1184 ∷ pos 611 ∷ neg 858 ∷ []) ∷
    (pos 433 ∷ pos 386 ∷ neg 372 ∷ []) ∷
    (neg 120 ∷ pos 486 ∷ neg 634 ∷ []) ∷
    (pos 234 ∷ pos 851 ∷ neg 631 ∷ []) ∷
    (pos 602 ∷ pos 128 ∷ pos 46 ∷ []) ∷
    (pos 1099 ∷ pos 410 ∷ pos 159 ∷ []) ∷
    (pos 715 ∷ neg 145 ∷ neg 424 ∷ []) ∷
    (pos 1198 ∷ neg 85 ∷ neg 593 ∷ []) ∷
    (pos 1390 ∷ pos 367 ∷ neg 358 ∷ []) ∷
    (pos 1683 ∷ pos 362 ∷ neg 964 ∷ []) ∷
    (pos 1711 ∷ pos 622 ∷ pos 45 ∷ []) ∷
    (pos 2033 ∷ pos 833 ∷ neg 383 ∷ []) ∷
    (pos 2890 ∷ pos 549 ∷ neg 506 ∷ []) ∷
    (pos 7 ∷ pos 401 ∷ pos 52 ∷ []) ∷
    (pos 72 ∷ pos 811 ∷ pos 415 ∷ []) ∷
    (pos 566 ∷ pos 668 ∷ pos 41 ∷ []) ∷
    (pos 467 ∷ pos 1218 ∷ pos 130 ∷ []) ∷
    (pos 68 ∷ pos 957 ∷ neg 187 ∷ []) ∷
    (neg 25 ∷ pos 1649 ∷ neg 103 ∷ []) ∷
    (neg 661 ∷ pos 260 ∷ pos 214 ∷ []) ∷
    (neg 925 ∷ neg 94 ∷ pos 612 ∷ []) ∷
    (neg 321 ∷ neg 422 ∷ pos 965 ∷ []) ∷
    (neg 788 ∷ neg 672 ∷ pos 1783 ∷ []) ∷
    (pos 400 ∷ neg 673 ∷ pos 779 ∷ []) ∷
    (pos 741 ∷ neg 595 ∷ pos 1635 ∷ []) ∷
    (neg 161 ∷ pos 307 ∷ pos 657 ∷ []) ∷
    (neg 382 ∷ pos 836 ∷ pos 871 ∷ []) ∷
    (neg 814 ∷ pos 400 ∷ pos 1223 ∷ []) ∷
    (pos 364 ∷ pos 606 ∷ pos 1247 ∷ []) ∷
    (pos 57 ∷ pos 75 ∷ pos 1571 ∷ []) ∷
    (pos 151 ∷ pos 471 ∷ pos 2287 ∷ []) ∷
    (neg 81 ∷ pos 1021 ∷ pos 1502 ∷ []) ∷
    (pos 227 ∷ pos 1470 ∷ pos 1097 ∷ []) ∷
    (pos 658 ∷ pos 1275 ∷ pos 1653 ∷ []) ∷
    (pos 664 ∷ pos 1478 ∷ pos 2377 ∷ []) ∷
    (pos 263 ∷ neg 127 ∷ pos 444 ∷ []) ∷
    (pos 264 ∷ pos 89 ∷ pos 969 ∷ []) ∷
    (pos 794 ∷ pos 171 ∷ pos 576 ∷ []) ∷
    (pos 821 ∷ pos 186 ∷ pos 1226 ∷ []) ∷
    (pos 404 ∷ pos 462 ∷ pos 517 ∷ []) ∷
    (pos 339 ∷ pos 918 ∷ pos 794 ∷ []) ∷
    (pos 1280 ∷ pos 1423 ∷ pos 196 ∷ []) ∷
    (pos 1453 ∷ pos 2019 ∷ pos 365 ∷ []) ∷
    (pos 1615 ∷ pos 1481 ∷ pos 672 ∷ []) ∷
    (pos 2394 ∷ pos 1708 ∷ pos 508 ∷ []) ∷
    (pos 806 ∷ pos 1238 ∷ pos 573 ∷ []) ∷
    (pos 713 ∷ pos 1158 ∷ pos 1078 ∷ []) ∷
    (pos 1285 ∷ pos 1436 ∷ pos 1232 ∷ []) ∷
    (pos 1790 ∷ pos 1188 ∷ pos 1141 ∷ []) ∷
    (pos 765 ∷ pos 643 ∷ pos 864 ∷ []) ∷
    (pos 1032 ∷ pos 797 ∷ pos 1279 ∷ []) ∷
    (pos 900 ∷ pos 563 ∷ pos 1827 ∷ []) ∷
    (pos 1514 ∷ pos 673 ∷ pos 2312 ∷ []) ∷
    (pos 1544 ∷ pos 1129 ∷ pos 3240 ∷ []) ∷
    (pos 1469 ∷ pos 1050 ∷ pos 1594 ∷ []) ∷
    (pos 1945 ∷ pos 1318 ∷ pos 1988 ∷ []) ∷
    (pos 2397 ∷ pos 2026 ∷ pos 2060 ∷ []) ∷
    (pos 3538 ∷ pos 2057 ∷ pos 2620 ∷ []) ∷
    (pos 1249 ∷ neg 118 ∷ pos 74 ∷ []) ∷
    (pos 1727 ∷ pos 194 ∷ pos 421 ∷ []) ∷
    (pos 2078 ∷ neg 50 ∷ neg 463 ∷ []) ∷
    (pos 970 ∷ pos 688 ∷ neg 432 ∷ []) ∷
    (pos 1149 ∷ pos 952 ∷ neg 110 ∷ []) ∷
    (pos 1254 ∷ pos 1275 ∷ neg 651 ∷ []) ∷
    (pos 1386 ∷ pos 929 ∷ pos 401 ∷ []) ∷
    (pos 1960 ∷ pos 1167 ∷ pos 232 ∷ []) ∷
    (pos 407 ∷ neg 752 ∷ neg 243 ∷ []) ∷
    (pos 859 ∷ neg 1118 ∷ pos 172 ∷ []) ∷
    (neg 227 ∷ neg 860 ∷ neg 992 ∷ []) ∷
    (neg 796 ∷ neg 1175 ∷ neg 1380 ∷ []) ∷
    (pos 8 ∷ neg 1282 ∷ neg 388 ∷ []) ∷
    (pos 353 ∷ neg 1781 ∷ neg 1037 ∷ []) ∷
    (neg 732 ∷ neg 397 ∷ neg 807 ∷ []) ∷
    (neg 853 ∷ neg 28 ∷ neg 1342 ∷ []) ∷
    (neg 1229 ∷ neg 1207 ∷ neg 1959 ∷ []) ∷
    (neg 1015 ∷ neg 1125 ∷ neg 2543 ∷ []) ∷
    (neg 1452 ∷ neg 1791 ∷ neg 2725 ∷ []) ∷
    (neg 1891 ∷ neg 2416 ∷ neg 3269 ∷ []) ∷
    (neg 918 ∷ neg 1629 ∷ neg 783 ∷ []) ∷
    (neg 580 ∷ neg 2155 ∷ neg 698 ∷ []) ∷
    (neg 1097 ∷ neg 2364 ∷ neg 96 ∷ []) ∷
    (neg 1387 ∷ neg 1513 ∷ pos 7 ∷ []) ∷
    (neg 1588 ∷ neg 2076 ∷ neg 664 ∷ []) ∷
    (neg 1473 ∷ neg 2740 ∷ neg 784 ∷ []) ∷
    (neg 2378 ∷ neg 3149 ∷ neg 56 ∷ []) ∷
    (neg 2856 ∷ neg 2092 ∷ neg 169 ∷ []) ∷
    (neg 3391 ∷ neg 3708 ∷ pos 316 ∷ []) ∷
    (neg 1176 ∷ neg 890 ∷ neg 614 ∷ []) ∷
    (neg 1944 ∷ neg 1061 ∷ neg 800 ∷ []) ∷
    (neg 299 ∷ neg 1517 ∷ neg 1000 ∷ []) ∷
    (neg 640 ∷ neg 1850 ∷ neg 1526 ∷ []) ∷
    (neg 1454 ∷ neg 1536 ∷ neg 1233 ∷ []) ∷
    (neg 1890 ∷ neg 1955 ∷ neg 1756 ∷ []) ∷
    (neg 1086 ∷ neg 1921 ∷ neg 2122 ∷ []) ∷
    (neg 750 ∷ neg 2325 ∷ neg 2260 ∷ []) ∷
    (neg 1325 ∷ neg 2413 ∷ neg 2673 ∷ []) ∷
    (neg 1114 ∷ neg 2542 ∷ neg 3459 ∷ []) ∷
    (neg 1341 ∷ neg 2901 ∷ neg 3963 ∷ []) ∷
    (neg 1160 ∷ neg 2226 ∷ neg 1393 ∷ []) ∷
    (neg 1001 ∷ neg 2772 ∷ neg 1573 ∷ []) ∷
    (neg 1594 ∷ neg 2641 ∷ neg 1978 ∷ []) ∷
    (neg 1534 ∷ neg 3046 ∷ neg 2624 ∷ []) ∷
    (neg 2224 ∷ neg 2196 ∷ neg 675 ∷ []) ∷
    (neg 2807 ∷ neg 3054 ∷ neg 1102 ∷ []) ∷
    (neg 2008 ∷ neg 2840 ∷ neg 1186 ∷ []) ∷
    (neg 1980 ∷ neg 3332 ∷ neg 1695 ∷ []) ∷
    (neg 1715 ∷ neg 3562 ∷ neg 505 ∷ []) ∷
    (neg 2527 ∷ neg 4000 ∷ neg 1887 ∷ []) ∷
    (neg 2333 ∷ neg 2734 ∷ neg 2296 ∷ []) ∷
    (neg 3440 ∷ neg 2401 ∷ neg 3211 ∷ []) ∷
    (neg 2008 ∷ neg 3528 ∷ neg 3337 ∷ []) ∷
    (neg 2247 ∷ neg 3291 ∷ neg 4510 ∷ []) ∷
    (neg 475 ∷ pos 949 ∷ pos 155 ∷ []) ∷
    (neg 149 ∷ pos 1365 ∷ pos 545 ∷ []) ∷
    (neg 757 ∷ pos 1644 ∷ pos 1083 ∷ []) ∷
    (neg 217 ∷ pos 2053 ∷ pos 1353 ∷ []) ∷
    (neg 1433 ∷ pos 2301 ∷ pos 1462 ∷ []) ∷
    (pos 495 ∷ pos 1661 ∷ pos 529 ∷ []) ∷
    (pos 10 ∷ pos 2037 ∷ pos 740 ∷ []) ∷
    (pos 2082 ∷ pos 1898 ∷ pos 978 ∷ []) ∷
    (pos 2831 ∷ pos 2294 ∷ pos 911 ∷ []) ∷
    (pos 842 ∷ pos 793 ∷ pos 420 ∷ []) ∷
    (pos 1223 ∷ pos 1023 ∷ pos 863 ∷ []) ∷
    (pos 1237 ∷ pos 451 ∷ pos 780 ∷ []) ∷
    (pos 1744 ∷ pos 708 ∷ pos 822 ∷ []) ∷
    (pos 1533 ∷ pos 284 ∷ pos 1384 ∷ []) ∷
    (pos 2135 ∷ pos 609 ∷ pos 1538 ∷ []) ∷
    (pos 2305 ∷ pos 626 ∷ pos 540 ∷ []) ∷
    (pos 2368 ∷ pos 1187 ∷ pos 955 ∷ []) ∷
    (pos 2586 ∷ pos 1255 ∷ neg 7 ∷ []) ∷
    (pos 3116 ∷ pos 1131 ∷ pos 726 ∷ []) ∷
    (pos 3431 ∷ pos 1730 ∷ pos 428 ∷ []) ∷
    (pos 2734 ∷ pos 1648 ∷ pos 1307 ∷ []) ∷
    (pos 2988 ∷ pos 1231 ∷ pos 2010 ∷ []) ∷
    (pos 3523 ∷ pos 2024 ∷ pos 1488 ∷ []) ∷
    (pos 1034 ∷ pos 1657 ∷ pos 871 ∷ []) ∷
    (pos 1206 ∷ pos 2163 ∷ pos 1036 ∷ []) ∷
    (pos 1807 ∷ pos 2372 ∷ pos 1233 ∷ []) ∷
    (pos 1808 ∷ pos 1769 ∷ pos 1493 ∷ []) ∷
    (pos 1573 ∷ pos 2332 ∷ pos 1779 ∷ []) ∷
    (pos 1216 ∷ pos 1609 ∷ pos 1866 ∷ []) ∷
    (pos 1480 ∷ pos 1898 ∷ pos 2513 ∷ []) ∷
    (pos 465 ∷ pos 2708 ∷ pos 2776 ∷ []) ∷
    (pos 771 ∷ pos 3638 ∷ pos 3338 ∷ []) ∷
    (pos 1869 ∷ pos 2599 ∷ pos 2623 ∷ []) ∷
    (pos 2825 ∷ pos 2745 ∷ pos 2468 ∷ []) ∷
    (pos 2638 ∷ pos 2439 ∷ pos 1585 ∷ []) ∷
    (pos 2094 ∷ pos 2970 ∷ pos 1308 ∷ []) ∷
    (pos 2022 ∷ pos 3057 ∷ pos 1999 ∷ []) ∷
    (pos 3428 ∷ pos 2912 ∷ pos 1816 ∷ []) ∷
    (pos 4536 ∷ pos 2974 ∷ pos 2129 ∷ []) ∷
    (pos 1046 ∷ pos 2563 ∷ pos 2086 ∷ []) ∷
    (pos 1363 ∷ pos 3562 ∷ pos 2318 ∷ []) ∷
    (pos 2511 ∷ pos 1891 ∷ pos 2984 ∷ []) ∷
    (pos 1866 ∷ pos 2306 ∷ pos 3986 ∷ []) ∷
    (pos 3272 ∷ pos 2924 ∷ pos 3682 ∷ []) ∷
    (pos 3146 ∷ pos 3564 ∷ pos 2272 ∷ []) ∷
    (pos 3592 ∷ pos 3968 ∷ pos 2822 ∷ []) ∷
    (pos 2431 ∷ pos 3369 ∷ pos 3069 ∷ []) ∷
    (pos 1931 ∷ pos 4709 ∷ pos 3090 ∷ []) ∷
    (pos 2629 ∷ pos 4220 ∷ pos 3986 ∷ []) ∷
    (pos 4639 ∷ pos 4056 ∷ pos 3664 ∷ []) ∷
    (pos 4035 ∷ pos 5334 ∷ pos 4912 ∷ []) ∷
    []

unfoldable pub lsp_band2 : List (List ℤ)
lsp_band2 =
    (pos 0 ∷ pos 0 ∷ pos 0 ∷ pos 0 ∷ []) ∷
    (pos 601 ∷ pos 512 ∷ neg 542 ∷ pos 334 ∷ []) ∷
    (pos 428 ∷ pos 1087 ∷ neg 484 ∷ neg 132 ∷ []) ∷
    (pos 652 ∷ pos 622 ∷ neg 391 ∷ neg 572 ∷ []) ∷
    (pos 378 ∷ pos 799 ∷ pos 141 ∷ neg 860 ∷ []) ∷
    (pos 1040 ∷ pos 409 ∷ pos 112 ∷ neg 554 ∷ []) ∷
    (pos 1123 ∷ pos 670 ∷ neg 75 ∷ neg 847 ∷ []) ∷
    (pos 1421 ∷ pos 494 ∷ neg 315 ∷ neg 1095 ∷ []) ∷
    (pos 787 ∷ pos 1001 ∷ pos 114 ∷ neg 460 ∷ []) ∷
    (pos 988 ∷ pos 1672 ∷ pos 216 ∷ neg 681 ∷ []) ∷
    (pos 1007 ∷ pos 1241 ∷ neg 132 ∷ neg 1247 ∷ []) ∷
    (pos 1073 ∷ pos 399 ∷ pos 186 ∷ neg 5 ∷ []) ∷
    (pos 1262 ∷ pos 193 ∷ neg 694 ∷ neg 129 ∷ []) ∷
    (pos 325 ∷ pos 196 ∷ pos 51 ∷ neg 641 ∷ []) ∷
    (pos 861 ∷ neg 59 ∷ pos 350 ∷ neg 458 ∷ []) ∷
    (pos 1261 ∷ pos 567 ∷ pos 586 ∷ neg 346 ∷ []) ∷
    (pos 1532 ∷ pos 885 ∷ pos 210 ∷ neg 517 ∷ []) ∷
    (pos 2027 ∷ pos 937 ∷ pos 113 ∷ neg 792 ∷ []) ∷
    (pos 1383 ∷ pos 1064 ∷ pos 334 ∷ pos 38 ∷ []) ∷
    (pos 1964 ∷ pos 1468 ∷ pos 459 ∷ pos 133 ∷ []) ∷
    (pos 2062 ∷ pos 1186 ∷ neg 98 ∷ neg 121 ∷ []) ∷
    (pos 2577 ∷ pos 1445 ∷ pos 506 ∷ neg 373 ∷ []) ∷
    (pos 2310 ∷ pos 1682 ∷ neg 2 ∷ neg 960 ∷ []) ∷
    (pos 2876 ∷ pos 1939 ∷ pos 765 ∷ pos 138 ∷ []) ∷
    (pos 3581 ∷ pos 2360 ∷ pos 649 ∷ neg 414 ∷ []) ∷
    (pos 219 ∷ pos 176 ∷ neg 398 ∷ neg 309 ∷ []) ∷
    (pos 434 ∷ neg 78 ∷ neg 435 ∷ neg 880 ∷ []) ∷
    (neg 344 ∷ pos 301 ∷ pos 265 ∷ neg 552 ∷ []) ∷
    (neg 915 ∷ pos 470 ∷ pos 657 ∷ neg 380 ∷ []) ∷
    (pos 419 ∷ neg 432 ∷ neg 163 ∷ neg 453 ∷ []) ∷
    (pos 351 ∷ neg 953 ∷ pos 8 ∷ neg 562 ∷ []) ∷
    (pos 789 ∷ neg 43 ∷ pos 20 ∷ neg 958 ∷ []) ∷
    (pos 302 ∷ neg 594 ∷ neg 352 ∷ neg 1159 ∷ []) ∷
    (pos 1040 ∷ pos 108 ∷ neg 668 ∷ neg 924 ∷ []) ∷
    (pos 1333 ∷ pos 210 ∷ neg 1217 ∷ neg 1663 ∷ []) ∷
    (pos 483 ∷ pos 589 ∷ neg 350 ∷ neg 1140 ∷ []) ∷
    (pos 1003 ∷ pos 824 ∷ neg 802 ∷ neg 1184 ∷ []) ∷
    (pos 745 ∷ pos 58 ∷ neg 589 ∷ neg 1443 ∷ []) ∷
    (pos 346 ∷ pos 247 ∷ neg 915 ∷ neg 1683 ∷ []) ∷
    (pos 270 ∷ pos 796 ∷ neg 720 ∷ neg 2043 ∷ []) ∷
    (pos 1208 ∷ pos 722 ∷ neg 222 ∷ neg 193 ∷ []) ∷
    (pos 1486 ∷ pos 1180 ∷ neg 412 ∷ neg 672 ∷ []) ∷
    (pos 1722 ∷ pos 179 ∷ neg 69 ∷ neg 521 ∷ []) ∷
    (pos 2047 ∷ pos 860 ∷ neg 666 ∷ neg 1410 ∷ []) ∷
    (neg 146 ∷ pos 222 ∷ neg 281 ∷ neg 805 ∷ []) ∷
    (neg 189 ∷ pos 90 ∷ neg 114 ∷ neg 1307 ∷ []) ∷
    (neg 152 ∷ pos 1086 ∷ neg 241 ∷ neg 764 ∷ []) ∷
    (neg 439 ∷ pos 733 ∷ neg 601 ∷ neg 1302 ∷ []) ∷
    (neg 833 ∷ neg 167 ∷ neg 351 ∷ neg 601 ∷ []) ∷
    (neg 856 ∷ neg 422 ∷ neg 411 ∷ neg 1059 ∷ []) ∷
    (neg 747 ∷ neg 355 ∷ neg 582 ∷ neg 1644 ∷ []) ∷
    (neg 837 ∷ pos 210 ∷ neg 916 ∷ neg 1144 ∷ []) ∷
    (neg 1800 ∷ pos 32 ∷ neg 878 ∷ neg 1687 ∷ []) ∷
    (neg 48 ∷ neg 23 ∷ neg 1146 ∷ pos 52 ∷ []) ∷
    (neg 350 ∷ neg 409 ∷ neg 1656 ∷ neg 364 ∷ []) ∷
    (pos 265 ∷ neg 728 ∷ neg 858 ∷ neg 577 ∷ []) ∷
    (pos 458 ∷ neg 247 ∷ neg 1141 ∷ neg 997 ∷ []) ∷
    (pos 691 ∷ neg 407 ∷ neg 1988 ∷ neg 1161 ∷ []) ∷
    (neg 66 ∷ neg 104 ∷ neg 705 ∷ neg 1249 ∷ []) ∷
    (neg 431 ∷ neg 93 ∷ neg 1191 ∷ neg 1844 ∷ []) ∷
    (pos 203 ∷ neg 732 ∷ neg 1000 ∷ neg 1693 ∷ []) ∷
    (pos 10 ∷ neg 832 ∷ neg 1846 ∷ neg 1819 ∷ []) ∷
    (pos 493 ∷ neg 128 ∷ neg 1436 ∷ neg 1768 ∷ []) ∷
    (pos 488 ∷ neg 311 ∷ neg 1730 ∷ neg 2540 ∷ []) ∷
    (neg 653 ∷ neg 532 ∷ neg 1150 ∷ neg 1172 ∷ []) ∷
    (neg 1086 ∷ neg 289 ∷ neg 1706 ∷ neg 1533 ∷ []) ∷
    (neg 699 ∷ neg 1205 ∷ neg 1216 ∷ neg 1766 ∷ []) ∷
    (neg 1032 ∷ neg 1481 ∷ neg 2074 ∷ neg 1523 ∷ []) ∷
    (neg 721 ∷ neg 1220 ∷ neg 2277 ∷ neg 2600 ∷ []) ∷
    (pos 12 ∷ neg 539 ∷ neg 1484 ∷ neg 1131 ∷ []) ∷
    (neg 40 ∷ neg 911 ∷ neg 2106 ∷ neg 441 ∷ []) ∷
    (neg 471 ∷ neg 484 ∷ neg 2267 ∷ neg 1549 ∷ []) ∷
    (neg 141 ∷ neg 988 ∷ neg 3006 ∷ neg 1721 ∷ []) ∷
    (neg 1545 ∷ neg 2102 ∷ neg 583 ∷ pos 342 ∷ []) ∷
    (neg 1383 ∷ neg 2772 ∷ neg 386 ∷ neg 13 ∷ []) ∷
    (neg 2118 ∷ neg 2589 ∷ neg 1205 ∷ pos 72 ∷ []) ∷
    (neg 2147 ∷ neg 3231 ∷ neg 965 ∷ pos 390 ∷ []) ∷
    (neg 2949 ∷ neg 3300 ∷ neg 621 ∷ pos 637 ∷ []) ∷
    (neg 3907 ∷ neg 4138 ∷ neg 865 ∷ pos 803 ∷ []) ∷
    (neg 1287 ∷ neg 845 ∷ neg 375 ∷ neg 548 ∷ []) ∷
    (neg 1416 ∷ neg 1169 ∷ neg 487 ∷ neg 1277 ∷ []) ∷
    (neg 1400 ∷ neg 1690 ∷ neg 1027 ∷ neg 418 ∷ []) ∷
    (neg 2018 ∷ neg 1909 ∷ neg 1188 ∷ neg 1260 ∷ []) ∷
    (neg 1418 ∷ neg 2222 ∷ neg 2029 ∷ neg 128 ∷ []) ∷
    (neg 2067 ∷ neg 2998 ∷ neg 2693 ∷ neg 310 ∷ []) ∷
    (neg 950 ∷ neg 1028 ∷ neg 1538 ∷ pos 185 ∷ []) ∷
    (neg 1616 ∷ neg 915 ∷ neg 2205 ∷ neg 549 ∷ []) ∷
    (pos 19 ∷ neg 821 ∷ neg 1145 ∷ pos 352 ∷ []) ∷
    (pos 184 ∷ neg 1175 ∷ neg 1356 ∷ neg 627 ∷ []) ∷
    (neg 547 ∷ neg 1088 ∷ neg 1661 ∷ neg 911 ∷ []) ∷
    (neg 216 ∷ neg 1502 ∷ neg 2197 ∷ neg 948 ∷ []) ∷
    (neg 795 ∷ neg 1306 ∷ neg 2374 ∷ neg 451 ∷ []) ∷
    (neg 924 ∷ neg 1889 ∷ neg 2796 ∷ neg 680 ∷ []) ∷
    (neg 600 ∷ neg 1614 ∷ neg 3609 ∷ neg 885 ∷ []) ∷
    (neg 2392 ∷ neg 2528 ∷ pos 319 ∷ pos 303 ∷ []) ∷
    (neg 2908 ∷ neg 2095 ∷ neg 310 ∷ pos 573 ∷ []) ∷
    (neg 3460 ∷ neg 2141 ∷ pos 49 ∷ neg 113 ∷ []) ∷
    (neg 2231 ∷ neg 448 ∷ pos 675 ∷ neg 146 ∷ []) ∷
    (neg 2805 ∷ neg 532 ∷ pos 1231 ∷ pos 479 ∷ []) ∷
    (neg 2684 ∷ neg 486 ∷ neg 200 ∷ pos 611 ∷ []) ∷
    (neg 3525 ∷ neg 971 ∷ neg 198 ∷ pos 704 ∷ []) ∷
    (neg 3707 ∷ pos 173 ∷ pos 349 ∷ pos 254 ∷ []) ∷
    (neg 4734 ∷ neg 1447 ∷ neg 34 ∷ pos 880 ∷ []) ∷
    (pos 777 ∷ neg 512 ∷ pos 114 ∷ neg 10 ∷ []) ∷
    (pos 1250 ∷ neg 66 ∷ pos 442 ∷ neg 5 ∷ []) ∷
    (pos 604 ∷ pos 613 ∷ pos 452 ∷ neg 352 ∷ []) ∷
    (pos 1224 ∷ pos 777 ∷ pos 675 ∷ neg 1014 ∷ []) ∷
    (neg 1372 ∷ neg 79 ∷ neg 1208 ∷ neg 238 ∷ []) ∷
    (neg 2389 ∷ neg 17 ∷ neg 1157 ∷ neg 818 ∷ []) ∷
    (neg 1504 ∷ neg 673 ∷ neg 1133 ∷ neg 1060 ∷ []) ∷
    (neg 1984 ∷ neg 799 ∷ neg 2005 ∷ neg 1973 ∷ []) ∷
    (neg 2037 ∷ neg 798 ∷ neg 1068 ∷ neg 105 ∷ []) ∷
    (neg 3190 ∷ neg 899 ∷ neg 1817 ∷ neg 194 ∷ []) ∷
    (neg 156 ∷ neg 886 ∷ pos 394 ∷ neg 318 ∷ []) ∷
    (neg 258 ∷ neg 1283 ∷ pos 551 ∷ pos 202 ∷ []) ∷
    (neg 536 ∷ neg 1729 ∷ pos 910 ∷ pos 331 ∷ []) ∷
    (neg 847 ∷ neg 1109 ∷ pos 795 ∷ neg 163 ∷ []) ∷
    (neg 1171 ∷ neg 1128 ∷ pos 715 ∷ pos 519 ∷ []) ∷
    (neg 1080 ∷ neg 1319 ∷ pos 1685 ∷ pos 668 ∷ []) ∷
    (neg 1000 ∷ neg 1921 ∷ pos 96 ∷ pos 211 ∷ []) ∷
    (neg 1487 ∷ neg 2148 ∷ pos 831 ∷ pos 174 ∷ []) ∷
    (neg 1139 ∷ neg 374 ∷ pos 414 ∷ neg 4 ∷ []) ∷
    (neg 1517 ∷ neg 1383 ∷ pos 396 ∷ neg 352 ∷ []) ∷
    (neg 1012 ∷ pos 439 ∷ neg 59 ∷ neg 967 ∷ []) ∷
    (neg 1812 ∷ pos 706 ∷ neg 440 ∷ neg 1030 ∷ []) ∷
    (neg 1971 ∷ neg 329 ∷ neg 34 ∷ neg 827 ∷ []) ∷
    (neg 2472 ∷ neg 1588 ∷ neg 151 ∷ neg 606 ∷ []) ∷
    (neg 2161 ∷ pos 374 ∷ neg 281 ∷ pos 76 ∷ []) ∷
    (neg 3012 ∷ pos 231 ∷ neg 15 ∷ neg 690 ∷ []) ∷
    (pos 1104 ∷ pos 566 ∷ pos 721 ∷ pos 209 ∷ []) ∷
    (pos 1685 ∷ pos 564 ∷ pos 383 ∷ pos 98 ∷ []) ∷
    (pos 1898 ∷ pos 750 ∷ pos 792 ∷ neg 97 ∷ []) ∷
    (pos 556 ∷ neg 64 ∷ pos 561 ∷ neg 93 ∷ []) ∷
    (pos 876 ∷ pos 162 ∷ pos 913 ∷ neg 22 ∷ []) ∷
    (pos 961 ∷ pos 675 ∷ pos 1296 ∷ pos 140 ∷ []) ∷
    (pos 756 ∷ neg 396 ∷ pos 851 ∷ pos 544 ∷ []) ∷
    (pos 360 ∷ neg 303 ∷ pos 1341 ∷ pos 396 ∷ []) ∷
    (pos 878 ∷ neg 22 ∷ pos 1464 ∷ pos 863 ∷ []) ∷
    (neg 309 ∷ neg 273 ∷ pos 642 ∷ neg 129 ∷ []) ∷
    (neg 686 ∷ neg 82 ∷ pos 842 ∷ pos 454 ∷ []) ∷
    (neg 5 ∷ neg 47 ∷ pos 1069 ∷ pos 998 ∷ []) ∷
    (neg 94 ∷ pos 967 ∷ pos 1277 ∷ pos 298 ∷ []) ∷
    (neg 489 ∷ pos 385 ∷ pos 1473 ∷ pos 746 ∷ []) ∷
    (neg 369 ∷ neg 717 ∷ pos 1333 ∷ pos 242 ∷ []) ∷
    (pos 281 ∷ neg 993 ∷ pos 1726 ∷ pos 924 ∷ []) ∷
    (pos 464 ∷ pos 601 ∷ pos 1575 ∷ pos 1376 ∷ []) ∷
    (neg 250 ∷ pos 206 ∷ pos 2339 ∷ pos 1175 ∷ []) ∷
    (neg 438 ∷ pos 377 ∷ neg 597 ∷ neg 285 ∷ []) ∷
    (neg 1020 ∷ pos 787 ∷ neg 790 ∷ neg 287 ∷ []) ∷
    (neg 458 ∷ neg 410 ∷ pos 215 ∷ pos 295 ∷ []) ∷
    (neg 589 ∷ neg 860 ∷ neg 121 ∷ pos 797 ∷ []) ∷
    (neg 1175 ∷ pos 122 ∷ neg 437 ∷ pos 466 ∷ []) ∷
    (neg 1480 ∷ neg 121 ∷ pos 367 ∷ pos 924 ∷ []) ∷
    (pos 234 ∷ pos 323 ∷ pos 770 ∷ neg 555 ∷ []) ∷
    (pos 145 ∷ pos 30 ∷ pos 996 ∷ pos 26 ∷ []) ∷
    (pos 66 ∷ pos 849 ∷ pos 93 ∷ neg 145 ∷ []) ∷
    (neg 117 ∷ pos 1261 ∷ pos 474 ∷ neg 399 ∷ []) ∷
    (neg 1495 ∷ pos 1051 ∷ pos 218 ∷ neg 506 ∷ []) ∷
    (neg 1390 ∷ pos 694 ∷ pos 994 ∷ pos 88 ∷ []) ∷
    (pos 616 ∷ pos 7 ∷ pos 78 ∷ pos 304 ∷ []) ∷
    (pos 1060 ∷ pos 52 ∷ neg 62 ∷ pos 835 ∷ []) ∷
    (pos 833 ∷ pos 454 ∷ pos 649 ∷ pos 1359 ∷ []) ∷
    (neg 770 ∷ pos 464 ∷ pos 47 ∷ pos 93 ∷ []) ∷
    (neg 574 ∷ pos 1199 ∷ neg 39 ∷ pos 379 ∷ []) ∷
    (pos 114 ∷ neg 98 ∷ pos 488 ∷ pos 485 ∷ []) ∷
    (pos 727 ∷ pos 244 ∷ pos 606 ∷ pos 696 ∷ []) ∷
    (neg 76 ∷ pos 455 ∷ pos 671 ∷ pos 546 ∷ []) ∷
    (neg 565 ∷ neg 13 ∷ pos 145 ∷ pos 819 ∷ []) ∷
    (neg 376 ∷ pos 569 ∷ pos 448 ∷ pos 1128 ∷ []) ∷
    (pos 218 ∷ pos 122 ∷ pos 265 ∷ pos 1167 ∷ []) ∷
    (pos 230 ∷ pos 738 ∷ pos 932 ∷ pos 1003 ∷ []) ∷
    (pos 138 ∷ pos 477 ∷ pos 36 ∷ pos 450 ∷ []) ∷
    (pos 404 ∷ pos 787 ∷ neg 73 ∷ pos 1000 ∷ []) ∷
    (pos 497 ∷ pos 1259 ∷ pos 387 ∷ pos 1231 ∷ []) ∷
    (pos 17 ∷ pos 207 ∷ pos 195 ∷ neg 79 ∷ []) ∷
    (pos 562 ∷ pos 358 ∷ pos 53 ∷ neg 158 ∷ []) ∷
    (pos 493 ∷ pos 387 ∷ pos 478 ∷ pos 189 ∷ []) ∷
    (pos 678 ∷ pos 831 ∷ pos 640 ∷ pos 558 ∷ []) ∷
    (neg 197 ∷ pos 523 ∷ pos 613 ∷ pos 57 ∷ []) ∷
    (pos 429 ∷ pos 894 ∷ pos 769 ∷ pos 111 ∷ []) ∷
    (pos 67 ∷ pos 1174 ∷ pos 568 ∷ pos 511 ∷ []) ∷
    (pos 1242 ∷ pos 824 ∷ pos 251 ∷ pos 840 ∷ []) ∷
    (pos 1419 ∷ pos 1074 ∷ pos 864 ∷ pos 481 ∷ []) ∷
    (pos 924 ∷ pos 1474 ∷ pos 669 ∷ pos 724 ∷ []) ∷
    (pos 1539 ∷ pos 1879 ∷ pos 654 ∷ pos 1590 ∷ []) ∷
    (pos 445 ∷ pos 337 ∷ pos 1111 ∷ pos 541 ∷ []) ∷
    (pos 472 ∷ pos 1421 ∷ pos 1264 ∷ pos 1094 ∷ []) ∷
    (pos 794 ∷ pos 735 ∷ pos 1103 ∷ pos 668 ∷ []) ∷
    (pos 1055 ∷ pos 863 ∷ pos 1192 ∷ pos 1020 ∷ []) ∷
    (pos 778 ∷ pos 1105 ∷ pos 806 ∷ pos 1798 ∷ []) ∷
    (pos 1052 ∷ pos 1527 ∷ pos 1587 ∷ pos 2151 ∷ []) ∷
    (pos 881 ∷ pos 1552 ∷ pos 1265 ∷ pos 391 ∷ []) ∷
    (pos 726 ∷ pos 872 ∷ pos 1812 ∷ pos 601 ∷ []) ∷
    (pos 1469 ∷ pos 280 ∷ pos 1008 ∷ pos 616 ∷ []) ∷
    (pos 1403 ∷ pos 577 ∷ pos 1803 ∷ pos 1244 ∷ []) ∷
    (pos 1650 ∷ pos 1314 ∷ pos 1148 ∷ pos 1072 ∷ []) ∷
    (pos 1297 ∷ pos 1669 ∷ pos 1911 ∷ pos 1026 ∷ []) ∷
    (pos 2093 ∷ pos 1044 ∷ pos 2115 ∷ pos 1189 ∷ []) ∷
    (pos 1644 ∷ pos 1961 ∷ pos 2587 ∷ pos 1512 ∷ []) ∷
    (pos 25 ∷ neg 315 ∷ neg 9 ∷ neg 106 ∷ []) ∷
    (pos 290 ∷ neg 339 ∷ pos 428 ∷ neg 444 ∷ []) ∷
    (neg 68 ∷ neg 783 ∷ pos 735 ∷ pos 772 ∷ []) ∷
    (pos 245 ∷ neg 555 ∷ pos 468 ∷ pos 47 ∷ []) ∷
    (pos 334 ∷ neg 895 ∷ pos 814 ∷ pos 146 ∷ []) ∷
    (pos 235 ∷ pos 368 ∷ neg 964 ∷ neg 959 ∷ []) ∷
    (neg 203 ∷ pos 315 ∷ neg 1566 ∷ neg 1217 ∷ []) ∷
    (pos 801 ∷ pos 17 ∷ neg 276 ∷ neg 354 ∷ []) ∷
    (pos 894 ∷ neg 495 ∷ neg 789 ∷ neg 635 ∷ []) ∷
    (pos 716 ∷ pos 291 ∷ neg 1189 ∷ neg 357 ∷ []) ∷
    (pos 560 ∷ neg 260 ∷ neg 733 ∷ neg 2 ∷ []) ∷
    (pos 679 ∷ neg 508 ∷ neg 1429 ∷ pos 211 ∷ []) ∷
    (neg 51 ∷ neg 62 ∷ neg 428 ∷ pos 557 ∷ []) ∷
    (pos 322 ∷ neg 638 ∷ neg 211 ∷ pos 614 ∷ []) ∷
    (neg 878 ∷ neg 1057 ∷ neg 84 ∷ neg 71 ∷ []) ∷
    (neg 388 ∷ neg 1415 ∷ neg 167 ∷ neg 318 ∷ []) ∷
    (neg 754 ∷ neg 1574 ∷ pos 214 ∷ neg 539 ∷ []) ∷
    (neg 1419 ∷ neg 2004 ∷ neg 92 ∷ neg 787 ∷ []) ∷
    (neg 47 ∷ neg 856 ∷ neg 347 ∷ neg 255 ∷ []) ∷
    (pos 23 ∷ neg 1211 ∷ neg 173 ∷ pos 320 ∷ []) ∷
    (neg 658 ∷ neg 487 ∷ neg 893 ∷ pos 353 ∷ []) ∷
    (neg 783 ∷ neg 1587 ∷ neg 584 ∷ pos 507 ∷ []) ∷
    (neg 1420 ∷ neg 859 ∷ neg 378 ∷ pos 441 ∷ []) ∷
    (neg 2095 ∷ neg 1491 ∷ neg 137 ∷ pos 439 ∷ []) ∷
    (neg 321 ∷ neg 1450 ∷ neg 1288 ∷ neg 12 ∷ []) ∷
    (neg 359 ∷ neg 2113 ∷ neg 553 ∷ neg 8 ∷ []) ∷
    (neg 831 ∷ neg 1918 ∷ neg 1561 ∷ pos 32 ∷ []) ∷
    (neg 1014 ∷ neg 2487 ∷ neg 1359 ∷ neg 939 ∷ []) ∷
    (neg 475 ∷ neg 311 ∷ neg 169 ∷ neg 236 ∷ []) ∷
    (neg 907 ∷ neg 426 ∷ pos 276 ∷ neg 611 ∷ []) ∷
    (neg 96 ∷ neg 400 ∷ pos 50 ∷ neg 710 ∷ []) ∷
    (neg 426 ∷ neg 1022 ∷ neg 10 ∷ neg 985 ∷ []) ∷
    (neg 197 ∷ neg 258 ∷ neg 744 ∷ neg 575 ∷ []) ∷
    (neg 611 ∷ neg 930 ∷ neg 771 ∷ neg 394 ∷ []) ∷
    (neg 267 ∷ neg 776 ∷ neg 612 ∷ neg 939 ∷ []) ∷
    (neg 256 ∷ neg 1346 ∷ neg 802 ∷ neg 1122 ∷ []) ∷
    (neg 796 ∷ neg 1570 ∷ neg 825 ∷ neg 754 ∷ []) ∷
    (pos 712 ∷ pos 876 ∷ pos 141 ∷ pos 227 ∷ []) ∷
    (pos 981 ∷ pos 1509 ∷ pos 85 ∷ pos 124 ∷ []) ∷
    (pos 1462 ∷ pos 1228 ∷ pos 979 ∷ neg 39 ∷ []) ∷
    (pos 1734 ∷ pos 999 ∷ pos 1481 ∷ pos 440 ∷ []) ∷
    (pos 2293 ∷ pos 1116 ∷ pos 769 ∷ pos 440 ∷ []) ∷
    (pos 2504 ∷ pos 1480 ∷ pos 1241 ∷ pos 356 ∷ []) ∷
    (pos 2474 ∷ pos 1909 ∷ pos 1558 ∷ pos 810 ∷ []) ∷
    (pos 917 ∷ pos 1134 ∷ pos 607 ∷ neg 134 ∷ []) ∷
    (pos 509 ∷ pos 1809 ∷ pos 781 ∷ neg 123 ∷ []) ∷
    (pos 1712 ∷ pos 1506 ∷ pos 559 ∷ neg 423 ∷ []) ∷
    (pos 2037 ∷ pos 2317 ∷ pos 726 ∷ neg 155 ∷ []) ∷
    (pos 3031 ∷ pos 2676 ∷ pos 1203 ∷ pos 331 ∷ []) ∷
    (pos 3664 ∷ pos 3274 ∷ pos 1768 ∷ pos 531 ∷ []) ∷
    (pos 1610 ∷ pos 1839 ∷ pos 867 ∷ pos 183 ∷ []) ∷
    (pos 1774 ∷ pos 1972 ∷ pos 1538 ∷ pos 97 ∷ []) ∷
    (pos 1822 ∷ pos 2158 ∷ pos 1282 ∷ pos 659 ∷ []) ∷
    (pos 2222 ∷ pos 2758 ∷ pos 1818 ∷ pos 900 ∷ []) ∷
    (pos 3251 ∷ pos 2124 ∷ pos 1723 ∷ pos 996 ∷ []) ∷
    (pos 3633 ∷ pos 2336 ∷ pos 2408 ∷ pos 1453 ∷ []) ∷
    (pos 2923 ∷ pos 3517 ∷ pos 2567 ∷ pos 1318 ∷ []) ∷
    []

-- all 2,560 numbers in one list: bands 0, 1 and 2, row by row
unfoldable pub lsp_rows : List ℤ
lsp_rows = flatten lsp_band0 ++ flatten lsp_band1 ++ flatten lsp_band2
