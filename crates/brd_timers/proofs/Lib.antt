mod TimesLemmas
